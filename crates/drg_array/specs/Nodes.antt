-- The texts of the named quantities.
use Rattle.std.specs.Prelude.{ℕ, List, [], ◌∷◌, ◌++◌, codes}
use Rattle.std.specs.Fmt.{signed_decimal}
use Rattle.drg_array.specs.Claims.{spaced}
use Rattle.drg_array.specs.declared.node.Node.{Node}
use Rattle.drg_array.specs.declared.node.Node.TheVariants.{K, N, P, Poly, Linear, Quadratic, U, M, Prow, Qrow, Rec, Pq, Krein, Kprod, Sign, Absolute, Eq, Keq}

abbrev pub node_word : Node → List ℕ
node_word (K i) = codes "k"
node_word N = codes "n"
node_word (P h i j) = codes "p"
node_word (Poly j) = codes "poly"
node_word (Linear r) = codes "linear"
node_word (Quadratic s t) = codes "quadratic"
node_word (U i r) = codes "u"
node_word (M i) = codes "m"
node_word (Prow i r) = codes "prow"
node_word (Qrow r i) = codes "qrow"
node_word (Rec i j) = codes "rec"
node_word (Pq i j) = codes "pq"
node_word (Krein i j h) = codes "krein"
node_word (Kprod i j r) = codes "kprod"
node_word (Sign i j h) = codes "sign"
node_word (Absolute i j) = codes "absolute"
node_word (Eq u v w a x y) = codes "eq"
node_word (Keq u v w i j h) = codes "keq"

-- the indices, with one space before each
abbrev pub node_indices : Node → List ℕ
node_indices (K i) = spaced (i ∷ [])
node_indices N = []
node_indices (P h i j) = spaced (h ∷ i ∷ j ∷ [])
node_indices (Poly j) = spaced (j ∷ [])
node_indices (Linear r) = 32 ∷ signed_decimal r
node_indices (Quadratic s t) = 32 ∷ signed_decimal s ++ 32 ∷ signed_decimal t
node_indices (U i r) = spaced (i ∷ r ∷ [])
node_indices (M i) = spaced (i ∷ [])
node_indices (Prow i r) = spaced (i ∷ r ∷ [])
node_indices (Qrow r i) = spaced (r ∷ i ∷ [])
node_indices (Rec i j) = spaced (i ∷ j ∷ [])
node_indices (Pq i j) = spaced (i ∷ j ∷ [])
node_indices (Krein i j h) = spaced (i ∷ j ∷ h ∷ [])
node_indices (Kprod i j r) = spaced (i ∷ j ∷ r ∷ [])
node_indices (Sign i j h) = spaced (i ∷ j ∷ h ∷ [])
node_indices (Absolute i j) = spaced (i ∷ j ∷ [])
node_indices (Eq u v w a x y) = spaced (u ∷ v ∷ w ∷ a ∷ x ∷ y ∷ [])
node_indices (Keq u v w i j h) = spaced (u ∷ v ∷ w ∷ i ∷ j ∷ h ∷ [])

abbrev pub node_text : Node → List ℕ
node_text node = node_word node ++ node_indices node

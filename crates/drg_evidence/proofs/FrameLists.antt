-- Lines and numbers that are appended one after the other.
use Rattle.std.proofs.Common.{◌≡◌, ℕ, zero, suc, ◌+◌, List, [], ◌∷◌, ◌++◌, append_assoc, refl, sym, ap, ◌∙◌, arith, ℤ, pos}
use Rattle.drg_derivation.specs.declared.line.Line.{Line}
use Rattle.drg_derivation.specs.declared.line.Line.TheVariants.{Frame}
use Rattle.drg_quadratic.specs.Values.{Value}
use Rattle.drg_evidence.specs.FrameLines.{dual_line, eigen_line, field_numbers, frame_lines, lines_from, row_numbers, theta_line}
use Rattle.drg_evidence.specs.FrameValues.{FrameValues}

lines_more : (line : ℕ → Line) (l n m : ℕ) → m ≡ l + n → lines_from line l (suc n) ≡ lines_from line l n ++ line m ∷ []
lines_more line l zero m e = let same : m ≡ l = omega arith in rw same refl
lines_more line l (suc n) m e = ap (λ ls. line l ∷ ls) (lines_more line (l + 1) n m (omega arith))

pub lines_push : (line : ℕ → Line) (n m : ℕ) (start before after : List Line) (x : Line) → m ≡ n + 1 → x ≡ line n → before ≡ start ++ lines_from line 0 n → after ≡ before ++ x ∷ []
    → after ≡ start ++ lines_from line 0 m
lines_push line n m start before after x e same old new =
    new ∙ (ap (λ ls. ls ++ x ∷ []) old ∙ (append_assoc start (lines_from line 0 n) (x ∷ []) ∙ ap (λ ls. start ++ ls)
    (ap (λ z. lines_from line 0 n ++ z ∷ []) same ∙ (sym (lines_more line 0 n n (omega arith)) ∙ (let next : suc n ≡ m = omega arith in ap (lines_from line 0) next)))))

pub lines_start : (line : ℕ → Line) (start : List Line) → start ≡ start ++ lines_from line 0 0
lines_start line [] = refl
lines_start line (x ∷ xs) = ap (λ ls. x ∷ ls) (lines_start line xs)

row_more : (root : ℕ) (x : ℕ → Value) (l n m : ℕ) → m ≡ l + n → row_numbers root x l (suc n) ≡ row_numbers root x l n ++ field_numbers root (x m)
row_more root x l zero m e = let same : m ≡ l = omega arith in rw same (nothing_more (field_numbers root (x l)))
  where
    nothing_more : (ns : List ℤ) → ns ++ [] ≡ ns
    nothing_more [] = refl
    nothing_more (n ∷ ns) = ap (λ ms. n ∷ ms) (nothing_more ns)
row_more root x l (suc n) m e = ap (λ ns. field_numbers root (x l) ++ ns) (row_more root x (suc l) n m (omega arith)) ∙ sym (append_assoc (field_numbers root (x l)) (row_numbers root x (suc l) n) (field_numbers root (x m)))

-- the numbers of the value at n are appended, of a value that is over the root
pub row_push : (root : ℕ) (x : ℕ → Value) (n m : ℕ) (before after : List ℤ) (other : ℕ) (y : Value) → m ≡ n + 1 → other ≡ root → y ≡ x n → before ≡ row_numbers root x 0 n
    → after ≡ before ++ field_numbers other y → after ≡ row_numbers root x 0 m
row_push root x n m before after other y e same is old new =
    new ∙ (ap (λ ns. ns ++ field_numbers other y) old ∙ (ap (λ ns. row_numbers root x 0 n ++ ns) (ap (λ (r : ℕ). field_numbers r y) same ∙ ap (field_numbers root) is)
    ∙ (sym (row_more root x 0 n n (omega arith)) ∙ (let next : suc n ≡ m = omega arith in ap (row_numbers root x 0) next))))

-- the lines of a frame, kind after kind
pub frame_push : (d : ℕ) (f : FrameValues) (root : ℤ) → root ≡ pos f.root → (start begun thetas eigens duals : List Line) → begun ≡ start ++ Frame root ∷ []
    → thetas ≡ begun ++ lines_from (theta_line d f) 0 (suc d) → eigens ≡ thetas ++ lines_from (eigen_line d f) 0 (suc d) → duals ≡ eigens ++ lines_from (dual_line d f) 0 (suc d)
    → duals ≡ start ++ frame_lines d f
frame_push d f root e start begun thetas eigens duals first second third fourth =
    let ts = lines_from (theta_line d f) 0 (suc d) in
    let ps = lines_from (eigen_line d f) 0 (suc d) in
    let qs = lines_from (dual_line d f) 0 (suc d) in
    let head = start ++ Frame (pos f.root) ∷ [] in
    fourth ∙ ap (λ ls. ls ++ qs) (third ∙ ap (λ ls. ls ++ ps) (second ∙ ap (λ ls. ls ++ ts) (first ∙ ap (λ r. start ++ Frame r ∷ []) e)))
    ∙ (append_assoc (head ++ ts) ps qs ∙ (append_assoc head ts (ps ++ qs) ∙ append_assoc start (Frame (pos f.root) ∷ []) (ts ++ (ps ++ qs))))

-- When the formula of each quantity of the Krein parameters fits: none of the work numbers of its operations is above
-- 2^127 - 1 in magnitude. As q^h_ij = q^h_ji, the quantities are those of i and j with i ≤ j.
use Rattle.std.specs.Prelude.{◌≡◌, ℕ, ◌≤◌, ◌&&◌, Bool, true}
use Rattle.drg_array.specs.declared.node.Node.{Node}
use Rattle.drg_array.specs.declared.node.Node.TheVariants.{Krein, Kprod, Sign}
use Rattle.drg_fraction.specs.Operations.{Operations}
use Rattle.drg_fraction.specs.Field.{dot_fits}
use Rattle.drg_matrix.specs.Frame.{multiplicity}
use Rattle.drg_krein.specs.Values.{FrameValues}
use Rattle.drg_krein.specs.Formulas.{row_of, scale, term, weighted_sum, krein_number}

module _ {V : Type 0} (o : Operations V) (f : FrameValues V) where
  -- the product m_i m_j and its quotient by n, and the products (k_r u_ir) u_jr, which all q^h_ij share
  pub record SharesFit (i j : ℕ) : Type 0 where
    pub multiplicities : o.product_fits (multiplicity f.q i) (multiplicity f.q j) ≡ true
    pub quotient : o.quotient_fits (o.times (multiplicity f.q i) (multiplicity f.q j)) f.n ≡ true
    pub terms : (r : ℕ) → r ≤ f.d → o.product_fits (f.p i r) (f.u j r) ≡ true

  -- their products with u_hr, the sums of these, and the product of both factors
  abbrev pub number_fits : ℕ → ℕ → ℕ → Bool
  number_fits i j h = dot_fits o (row_of o f (term o f i j)) (row_of o f (f.u h)) && o.product_fits (scale o f i j) (weighted_sum o f i j h)

  -- the parameter q^h_ij
  pub record KreinFits (i j h : ℕ) : Type 0 where
    pub shares : SharesFit i j
    pub number : number_fits i j h ≡ true

  -- the product Q_ri Q_rj, and then the sum over h of q^h_ij Q_rh
  abbrev pub kprod_fits : ℕ → ℕ → ℕ → Bool
  kprod_fits i j r = o.product_fits (f.q r i) (f.q r j) && dot_fits o (row_of o f (krein_number o f i j)) (row_of o f (f.q r))

  -- the formula of the quantity fits
  abbrev pub Fits : Node → Type 0
  Fits (Krein i j h) = KreinFits i j h
  Fits (Kprod i j r) = kprod_fits i j r ≡ true
  Fits (Sign i j h) = o.sign_fits (krein_number o f i j h) ≡ true
  Fits node = ⊥

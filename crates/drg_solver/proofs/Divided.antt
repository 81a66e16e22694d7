-- A proposed division that was looked at divides the leaf.
use Rattle.std.proofs.Common.{◌≡◌, ℕ, ℤ, true, subst}
use Rattle.drg_linear.specs.declared.unknown.Unknown.{Unknown}
use Rattle.drg_linear.specs.Unknowns.{is_unknown, place}
use Rattle.drg_linear.specs.Closing.{ClosesInOneStep}
use Rattle.drg_linear.specs.Rooms.{RoomContent}
use Rattle.drg_linear.specs.Splits.{Divides}
use Rattle.drg_linear.specs.Systems.{SystemContent}
use Rattle.drg_solver.specs.Parts.{IsPart}
use Rattle.drg_solver.specs.Findings.{IsDivided}

pub sides_divide : (s : SystemContent) (room : RoomContent) (u : Unknown) (v : ℤ) → IsPart s.room room → (ClosesInOneStep room.d room.bounds s.equations → ⊥) → is_unknown room.d u ≡ true
    → Divides room.bounds (place room.d u) v → IsDivided s room u v
sides_divide s room u v p unclosed unknown sides = record {
  unclosed = subst (λ (d : ℕ). ClosesInOneStep d room.bounds s.equations → ⊥) p.d unclosed;
  unknown = subst (λ (d : ℕ). is_unknown d u ≡ true) p.d unknown;
  sides = subst (λ (d : ℕ). Divides room.bounds (place d u) v) p.d sides;
}

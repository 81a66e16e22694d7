-- Changes of the room in hand and the way back.
use Rattle.std.proofs.Common.{◌≡◌, ℕ, zero, suc, ℤ, Bool, true, false, List, [], ◌∷◌, ◌++◌, Option, Some, refl, sym, ap, ◌∙◌}
use Rattle.std.specs.Prelude.{slice_set, reverse, Result, Ok, Err, IsOk, MatchResult}
use Rattle.std.proofs.lemmas.List.{reverse-append}
use Rattle.drg_linear.specs.Rooms.{RoomBounds, Bounds, bounds_at}
use Rattle.drg_rooms.specs.declared.trail.Change.{Change}
use Rattle.drg_rooms.specs.Trails.{kept_rooms, rooms_of, with_half, LeadBack}
use Rattle.drg_rooms.specs.Lines.{in_hand, kept_of, is_open}

set_back : (room : RoomBounds) (p : ℕ) (b : Bounds) → slice_set (slice_set room p b) p (bounds_at room p) ≡ room
set_back [] p b = refl
set_back (c ∷ room) zero b = refl
set_back (c ∷ room) (suc p) b = ap (λ (r : RoomBounds). c ∷ r) (set_back room p b)

set_twice : (room : RoomBounds) (p : ℕ) (b c : Bounds) → slice_set (slice_set room p b) p c ≡ slice_set room p c
set_twice [] p b c = refl
set_twice (a ∷ room) zero b c = refl
set_twice (a ∷ room) (suc p) b c = ap (λ (r : RoomBounds). a ∷ r) (set_twice room p b c)

set_same : (room : RoomBounds) (p : ℕ) → slice_set room p (bounds_at room p) ≡ room
set_same [] p = refl
set_same (c ∷ room) zero = refl
set_same (c ∷ room) (suc p) = ap (λ (r : RoomBounds). c ∷ r) (set_same room p)

tightened : (o : Bool) (room : RoomBounds) (cs more : List Change) (p : ℕ) (b before : Bounds) → is_open (rooms_of o room cs) ≡ true → before ≡ bounds_at room p
    → ((r : RoomBounds) → kept_rooms r more ≡ kept_rooms (slice_set r p before) cs)
    → rooms_of o (slice_set room p b) more ≡ slice_set (in_hand (rooms_of o room cs)) p b ∷ kept_of (rooms_of o room cs)
tightened true room cs more p b before h e g =
    ap (λ (rooms : List RoomBounds). slice_set room p b ∷ rooms)
    (g (slice_set room p b) ∙ (ap (λ (c : Bounds). kept_rooms (slice_set (slice_set room p b) p c) cs) e ∙ ap (λ (r : RoomBounds). kept_rooms r cs) (set_back room p b)))
tightened false room cs more p b before h e g = cc

unchanged : (o : Bool) (room : RoomBounds) (cs : List Change) (p : ℕ) → is_open (rooms_of o room cs) ≡ true
    → rooms_of o room cs ≡ slice_set (in_hand (rooms_of o room cs)) p (bounds_at room p) ∷ kept_of (rooms_of o room cs)
unchanged true room cs p h = ap (λ (r : RoomBounds). r ∷ kept_rooms room cs) (sym (set_same room p))
unchanged false room cs p h = cc

pub halved : (o : Bool) (room : RoomBounds) (cs : List Change) (p : ℕ) (high low : ℤ) → is_open (rooms_of o room cs) ≡ true
    → rooms_of o (slice_set room p ((bounds_at room p).0, high)) (record { place = p; before = bounds_at room p; kept = Some low } ∷ cs)
    ≡ slice_set (in_hand (rooms_of o room cs)) p ((bounds_at (in_hand (rooms_of o room cs)) p).0, high)
    ∷ slice_set (in_hand (rooms_of o room cs)) p (low, (bounds_at (in_hand (rooms_of o room cs)) p).1)
    ∷ kept_of (rooms_of o room cs)
halved true room cs p high low h =
    let lower = slice_set room p ((bounds_at room p).0, high) in
    ap (λ (r : RoomBounds). lower ∷ slice_set lower p (low, (bounds_at room p).1) ∷ kept_rooms r cs) (set_back room p ((bounds_at room p).0, high))
    ∙ ap (λ (r : RoomBounds). lower ∷ r ∷ kept_rooms room cs) (set_twice room p ((bounds_at room p).0, high) (low, (bounds_at room p).1))
halved false room cs p high low h = cc

pub closed : (o : Bool) (room : RoomBounds) (cs : List Change) → o ≡ true → kept_rooms room cs ≡ kept_of (rooms_of o room cs)
closed true room cs h = refl
closed false room cs h = cc

pub newest_first : (cs : List Change) (c : Change) → reverse (cs ++ c ∷ []) ≡ c ∷ reverse cs
newest_first cs c = reverse-append cs (c ∷ [])

pub tighten_is : (o : Bool) (room after : RoomBounds) (now : List RoomBounds) (cs more : List Change) (p : ℕ) (b before : Bounds)
    → rooms_of o room (reverse cs) ≡ now → is_open now ≡ true → before ≡ bounds_at room p → after ≡ slice_set room p b
    → LeadBack cs p before more
    → rooms_of o after (reverse more) ≡ slice_set (in_hand now) p b ∷ kept_of now
tighten_is o room after now cs more p b before v h e f g =
    let k : is_open (rooms_of o room (reverse cs)) ≡ true = rw v h in
    rw (f, ← v) (tightened o room (reverse cs) (reverse more) p b before k e g.back)

-- bounds that are put where they stand change nothing
pub unchanged_is : (o : Bool) (room : RoomBounds) (now : List RoomBounds) (cs : List Change) (p : ℕ) (b before : Bounds)
    → rooms_of o room (reverse cs) ≡ now → is_open now ≡ true → before ≡ bounds_at room p → b ≡ before
    → now ≡ slice_set (in_hand now) p b ∷ kept_of now
unchanged_is o room now cs p b before v h e f =
    let k : is_open (rooms_of o room (reverse cs)) ≡ true = rw v h in
    rw (f, e, ← v) (unchanged o room (reverse cs) p k)

pub halve_is : (o : Bool) (room after : RoomBounds) (now : List RoomBounds) (cs more : List Change) (p : ℕ) (high low : ℤ) (before : Bounds)
    → rooms_of o room (reverse cs) ≡ now → is_open now ≡ true → before ≡ bounds_at room p → after ≡ slice_set room p (before.0, high)
    → more ≡ cs ++ (record { place = p; before = before; kept = Some low }) ∷ []
    → rooms_of o after (reverse more) ≡ slice_set (in_hand now) p ((bounds_at (in_hand now) p).0, high) ∷ slice_set (in_hand now) p (low, (bounds_at (in_hand now) p).1) ∷ kept_of now
halve_is o room after now cs more p high low before v h e f g =
    let k : is_open (rooms_of o room (reverse cs)) ≡ true = rw v h in
    rw (f, g, newest_first cs (record { place = p; before = before; kept = Some low }), e, ← v) (halved o room (reverse cs) p high low k)

with_kept : (room : RoomBounds) (c : Change) (low : ℤ) (rooms : List RoomBounds) → c.kept ≡ Some low → with_half c.kept room c rooms ≡ slice_set room c.place (low, c.before.1) ∷ rooms
with_kept room c low rooms e = ap (λ (k : Option ℤ). with_half k room c rooms) e

pub took_up : (room after : RoomBounds) (cs rest more : List Change) (c : Change) (low : ℤ)
    → c.kept ≡ Some low → cs ≡ rest ++ c ∷ [] → after ≡ slice_set room c.place (low, c.before.1)
    → LeadBack rest c.place c.before more
    → after ∷ kept_rooms after (reverse more) ≡ kept_rooms room (reverse cs)
took_up room after cs rest more c low k e f g =
    rw (g.back after, e, newest_first rest c, f)
    (ap (λ (r : RoomBounds). slice_set room c.place (low, c.before.1) ∷ kept_rooms r (reverse rest)) (set_twice room c.place (low, c.before.1) c.before)
    ∙ sym (with_kept room c low (kept_rooms (slice_set room c.place c.before) (reverse rest)) k))

-- what a call that succeeds leaves
pub led_back : {A E : Type 0} (r : Result A E) (cs more : List Change) (p : ℕ) (before : Bounds) → IsOk r
    → MatchResult r (λ _. LeadBack cs p before more) (λ _. more ≡ cs) → LeadBack cs p before more
led_back (Ok a) cs more p before h g = g
led_back (Err a) cs more p before h g = cc

-- What clap finds among the rules of a grammar.
use Rattle.std.proofs.Common.{◌≡◌, ◌∙◌, ◌+◌, ◌≤◌, ◌&&◌, ◌||◌, ◌==◌, Bool, cond, not, true, false, suc, refl, [], ◌∷◌, ◌++◌, map, List, ℕ, codes, Some, None, Option, ap, ap₂, sym, length, arith}
use Rattle.std.specs.Prelude.{is_some}
use Rattle.std.specs.Option.{option_map_or, option_or}
use Rattle.std.specs.List.{find}
use Rattle.std.specs.Str.{bytes_eq}
use Rattle.std.proofs.lemmas.Bool.{ne_eqb, or_parts}
use Rattle.std.proofs.lemmas.List.Folds.{find-append}
use Rattle.std.proofs.lemmas.Slice.Eq.{bytes_eq-Decides}
use Rattle.std.proofs.lemmas.Bool.Decides.{nat_tests}
use Rattle.clap.specs.Walk.{Rule, Text, arg_by_id, arg_by_index, arg_by_long, arg_by_short, has_long, has_short}
use Rattle.clap.specs.Simple.{Shape, new_rule, new_shape}
use Rattle.clap.specs.declared.builder.action.ArgAction.TheVariants.{Set, SetTrue}
use Rattle.clap.specs.declared.builder.value_parser.ValueParser.TheVariants as vp
use Rattle.drg_words.specs.Grammar.{Grammar, has_name}

abbrev pub option_full : Text → Rule
option_full n = record (new_rule n) {
  long = Some n;
  action = Some Set;
  range = Some (record { start_inclusive = 1; end_inclusive = 1 });
  parser = Some vp.String;
}

abbrev pub flag_full : Text → Rule
flag_full n = record (new_rule n) {
  long = Some n;
  action = Some SetTrue;
  range = Some (record { start_inclusive = 0; end_inclusive = 0 });
  defaults = codes "false" ∷ [];
  missing = codes "true" ∷ [];
  parser = Some vp.Bool;
}

abbrev pub word_full : ℕ → Text → Rule
word_full i n = record (new_rule n) {
  index = Some i;
  action = Some Set;
  range = Some (record { start_inclusive = 1; end_inclusive = 1 });
  parser = Some vp.String;
  required = true;
}

abbrev pub numbered : ℕ → List Text → List Rule
numbered i [] = []
numbered i (n ∷ ns) = word_full i n ∷ numbered (suc i) ns

abbrev pub rules : Grammar → List Rule
rules g = map option_full g.options ++ (map flag_full g.flags ++ numbered 1 g.words)

-- the built command of a grammar
abbrev pub leaf : Text → Grammar → Shape
leaf name g = record (new_shape name) {
  rules = rules g;
  no_binary_name = true;
  disable_help_flag = true;
  disable_help_subcommand = true;
  disable_version_flag = true;
  is_built = true;
}

-- ---- searches

find_named : {X : Type 0} (p : X → Bool) (f : Text → X) (name : Text) (xs : List Text) → ((x : Text) → p (f x) ≡ bytes_eq x name)
    → find p (map f xs) ≡ cond (has_name xs name) (Some (f name)) None
find_named p f name [] h = refl
find_named p f name (x ∷ xs) h = go (bytes_eq x name) refl (find_named p f name xs h)
  where
    go : (b : Bool) → bytes_eq x name ≡ b → find p (map f xs) ≡ cond (has_name xs name) (Some (f name)) None
        → find p (map f (x ∷ xs)) ≡ cond (has_name (x ∷ xs) name) (Some (f name)) None
    go true e rest = rw (h x, e) (ap (λ t. Some (f t)) ((bytes_eq-Decides x name).0 e))
    go false e rest = rw (h x, e) rest

find_no : {X : Type 0} (p : X → Bool) (f : Text → X) (xs : List Text) → ((x : Text) → p (f x) ≡ false) → find p (map f xs) ≡ None
find_no p f [] h = refl
find_no p f (x ∷ xs) h = rw (h x) (find_no p f xs h)

find_no_word : (p : Rule → Bool) (i : ℕ) (ns : List Text) → ((k : ℕ) (x : Text) → p (word_full k x) ≡ false) → find p (numbered i ns) ≡ None
find_no_word p i [] h = refl
find_no_word p i (x ∷ xs) h = rw (h i x) (find_no_word p (suc i) xs h)

or_false : (b : Bool) → (b || false) ≡ b
or_false true = refl
or_false false = refl

pub same_text : (x : Text) → bytes_eq x x ≡ true
same_text x = (bytes_eq-Decides x x).1 refl

-- a search over all rules
find_rule : (p : Rule → Bool) (g : Grammar) (a b c : Option Rule) → find p (map option_full g.options) ≡ a → find p (map flag_full g.flags) ≡ b → find p (numbered 1 g.words) ≡ c
    → find p (rules g) ≡ option_or a (option_or b c)
find_rule p g a b c x y z =
    find-append p (map option_full g.options) (map flag_full g.flags ++ numbered 1 g.words)
    ∙ ap₂ option_or x (find-append p (map flag_full g.flags) (numbered 1 g.words) ∙ ap₂ option_or y z)

-- the option or the flag of a name
abbrev pub found_long : Grammar → Text → Option Rule
found_long g name = cond (has_name g.options name) (Some (option_full name)) (cond (has_name g.flags name) (Some (flag_full name)) None)

pub by_long : (g : Grammar) (name : Text) → arg_by_long (rules g) name ≡ found_long g name
by_long g name =
    let p = λ (a : Rule). not (is_some a.index) && has_long a name in
    find_rule p g (cond (has_name g.options name) (Some (option_full name)) None) (cond (has_name g.flags name) (Some (flag_full name)) None) None
    (find_named p option_full name g.options (λ x. or_false (bytes_eq x name))) (find_named p flag_full name g.flags (λ x. or_false (bytes_eq x name)))
    (find_no_word p 1 g.words (λ k x. refl))
    ∙ join (has_name g.options name) (has_name g.flags name)
  where
    join : (b c : Bool) → option_or (cond b (Some (option_full name)) None) (option_or (cond c (Some (flag_full name)) None) None)
        ≡ cond b (Some (option_full name)) (cond c (Some (flag_full name)) None)
    join true c = refl
    join false true = refl
    join false false = refl

pub by_short : (g : Grammar) (c : ℕ) → arg_by_short (rules g) c ≡ None
by_short g c =
    let p = λ (a : Rule). not (is_some a.index) && has_short a c in
    find_rule p g None None None (find_no p option_full g.options (λ x. refl)) (find_no p flag_full g.flags (λ x. refl)) (find_no_word p 1 g.words (λ k x. refl))

pub by_id_option : (g : Grammar) (name : Text) → has_name g.options name ≡ true → arg_by_id (rules g) name ≡ Some (option_full name)
by_id_option g name h =
    let p = λ (a : Rule). bytes_eq a.id name in
    find_rule p g (Some (option_full name)) _ _ (find_named p option_full name g.options (λ x. refl) ∙ ap (λ b. cond b (Some (option_full name)) None) h) refl refl

id_at : (i : ℕ) (done : List Text) (id : Text) (more : List Text) → has_name done id ≡ false
    → find (λ (a : Rule). bytes_eq a.id id) (numbered i (done ++ id ∷ more)) ≡ Some (word_full (i + length done) id)
id_at i [] id more h =
    let same : i ≡ i + 0 = omega arith in
    rw (same_text id) (ap (λ k. Some (word_full k id)) same)
id_at i (x ∷ xs) id more h =
    let parts = or_parts (bytes_eq x id) (has_name xs id) h in
    let same : suc i + length xs ≡ i + suc (length xs) = omega arith in
    rw parts.0 (id_at (suc i) xs id more parts.1 ∙ ap (λ k. Some (word_full k id)) same)

abbrev by_place : ℕ → Rule → Bool
by_place j a = option_map_or (λ k. k == j) a.index false

same_number : (i : ℕ) → (i == i) ≡ true
same_number i = grind (arith, nat_tests)

index_at : (i j : ℕ) (done : List Text) (id : Text) (more : List Text) → j ≡ i + length done → find (by_place j) (numbered i (done ++ id ∷ more)) ≡ Some (word_full j id)
index_at i j [] id more e =
    let same : i ≡ j = omega arith in
    let hit : (i == j) ≡ true = ap (λ k. i == k) (sym same) ∙ same_number i in
    rw hit (ap (λ k. Some (word_full k id)) same)
index_at i j (x ∷ xs) id more e =
    rw (ne_eqb i j (λ same. omega arith)) (index_at (suc i) j xs id more (omega arith))

index_past : (i j : ℕ) (ns : List Text) → i + length ns ≤ j → find (by_place j) (numbered i ns) ≡ None
index_past i j [] h = refl
index_past i j (x ∷ xs) h = rw (ne_eqb i j (λ same. omega arith)) (index_past (suc i) j xs (omega arith))

pub by_id_word : (g : Grammar) (done : List Text) (id : Text) (more : List Text) → g.words ≡ done ++ id ∷ more → has_name g.options id ≡ false → has_name g.flags id ≡ false → has_name done id ≡ false
    → arg_by_id (rules g) id ≡ Some (word_full (1 + length done) id)
by_id_word g done id more w a b h =
    let p = λ (r : Rule). bytes_eq r.id id in
    find_rule p g None None (Some (word_full (1 + length done) id)) (find_named p option_full id g.options (λ x. refl) ∙ ap (λ t. cond t (Some (option_full id)) None) a)
    (find_named p flag_full id g.flags (λ x. refl) ∙ ap (λ t. cond t (Some (flag_full id)) None) b) (ap (λ ns. find p (numbered 1 ns)) w ∙ id_at 1 done id more h)

pub by_index_word : (g : Grammar) (done : List Text) (id : Text) (more : List Text) → g.words ≡ done ++ id ∷ more
    → arg_by_index (rules g) (1 + length done) ≡ Some (word_full (1 + length done) id)
by_index_word g done id more w =
    let p = by_place (1 + length done) in
    find_rule p g None None (Some (word_full (1 + length done) id)) (find_no p option_full g.options (λ x. refl)) (find_no p flag_full g.flags (λ x. refl))
    (ap (λ ns. find p (numbered 1 ns)) w ∙ index_at 1 (1 + length done) done id more refl)

pub by_index_past : (g : Grammar) → arg_by_index (rules g) (1 + length g.words) ≡ None
by_index_past g =
    let p = by_place (1 + length g.words) in
    find_rule p g None None None (find_no p option_full g.options (λ x. refl)) (find_no p flag_full g.flags (λ x. refl)) (index_past 1 (1 + length g.words) g.words (omega arith))

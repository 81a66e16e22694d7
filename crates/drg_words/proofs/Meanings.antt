-- What the words of the commands say: one command for the same words, and the one that is read from clap's matches.
use Rattle.std.proofs.Common.{◌≡◌, ◌∙◌, ◌++◌, ◌≤◌, ℕ, Bool, cond, true, false, refl, [], ◌∷◌, map, List, codes, Some, None, Option, option_map, ap, ap₂, sym, subst, arith}
use Rattle.std.specs.Prelude.{decimal}
use Rattle.std.specs.Str.{bytes_eq}
use Rattle.std.proofs.lemmas.Fmt.{decimal_injective}
use Rattle.std.proofs.lemmas.Slice.Eq.{bytes_eq-Decides}
use Rattle.clap.specs.Walk.{Row, Text, rows_after}
use Rattle.clap.specs.Words.{subcommand_name_of, subcommand_of, subcommand_rows_of}
use Rattle.clap.specs.declared.parser.matches.ArgMatches.{ArgMatches}
use Rattle.clap.specs.declared.parser.matches.ArgMatches.TheViews.{out-ArgMatches}
use Rattle.drg_array.specs.declared.test.Test.{Test}
use Rattle.drg_array.proofs.TestTexts.{one_list}
use Rattle.drg_words.specs.Grammar.{Grammar, IsLine, Part, has_flag, has_name, positional, value_of}
use Rattle.drg_words.specs.Commands.{AreTests, AreWordsOf, IsBudget, IsCommand, OneCommand, Says, check_grammar, grammar_of, name_of, table_grammar}
use Rattle.drg_words.specs.Matches.{Either, ReadsNamed, ReadsNoneNamed, SaysCensus, SaysCheck, SaysClassical, SaysGraph, SaysNamed, SaysReplay, SaysSample, SaysTable, Tells, commands, drg_app, grammar_named}
use Rattle.drg_words.specs.declared.command.Command.{Command}
use Rattle.drg_words.specs.declared.command.Command.TheVariants.{Check, Replay, Table, Sample, Graph, Census, Classical}
use Rattle.drg_words.proofs.Built.{are_lawful, drg_built}
use Rattle.drg_words.proofs.Commands.{app_rows}
use Rattle.drg_words.proofs.Lawful.{InCommands, IsLawful}
use Rattle.drg_words.proofs.Rules.{rules}
use Rattle.drg_words.proofs.Told.{line_tells}

-- ---- each command has its own name

pub named_grammar : (c : Command) → grammar_named commands (name_of c) ≡ Some (grammar_of c)
named_grammar (Check tests budget json file) = refl
named_grammar (Replay file) = refl
named_grammar (Table tests budget file) = refl
named_grammar (Sample seed count) = refl
named_grammar (Graph file) = refl
named_grammar (Census d k n) = refl
named_grammar (Classical file) = refl

pub named_says : (c : Command) (parts : List Part) (last : List Text) → Says c parts last → SaysNamed (name_of c) parts last c
named_says (Check tests budget json file) parts last s = (tests, budget, json, file, refl, s)
named_says (Replay file) parts last s = (file, refl, s)
named_says (Table tests budget file) parts last s = (tests, budget, file, refl, s)
named_says (Sample seed count) parts last s = (seed, count, refl, s)
named_says (Graph file) parts last s = (file, refl, s)
named_says (Census d k n) parts last s = (d, k, n, refl, s)
named_says (Classical file) parts last s = (file, refl, s)

own : (name w : Text) (k g : Grammar) → grammar_named commands name ≡ Some k → name ≡ w → grammar_named commands w ≡ Some g → k ≡ g
own name w k g a same e =
    let both : ◌≡◌ {A = Option Grammar} (Some k) (Some g) = sym a ∙ ap (grammar_named commands) same ∙ e in
    cc both

one_case : {A B X : Type 0} (name w : Text) → Either (bytes_eq name w) A B → (name ≡ w → A → X) → (B → X) → X
one_case {A} {B} {X} name w h here there = by (bytes_eq name w) refl h
  where
    by : (b : Bool) → bytes_eq name w ≡ b → Either b A B → X
    by true e s = here ((bytes_eq-Decides name w).0 e) s
    by false e s = there s

two_cases : {A B C D X : Type 0} (name w : Text) → Either (bytes_eq name w) A B → Either (bytes_eq name w) C D → (name ≡ w → A → C → X) → (B → D → X) → X
two_cases {A} {B} {C} {D} {X} name w h k here there = by (bytes_eq name w) refl h k
  where
    by : (b : Bool) → bytes_eq name w ≡ b → Either b A B → Either b C D → X
    by true e s t = here ((bytes_eq-Decides name w).0 e) s t
    by false e s t = there s t

-- ---- the words of what the parts say

module _ (w : Text) (g : Grammar) (rest last : List Text) (parts : List Part) (c : Command) (e : grammar_named commands w ≡ Some g) (line : IsLine g parts last rest) where
  found : (d : Command) → c ≡ d → name_of d ≡ w → Says d parts last → AreWordsOf c (w ∷ rest)
  found d is name says =
      let k : grammar_of d ≡ g = own (name_of d) w (grammar_of d) g (named_grammar d) name e in
      subst (λ (x : Command). AreWordsOf x (w ∷ rest)) (sym is)
      (rest, parts, last, ap (λ t. t ∷ rest) (sym name), subst (λ (h : Grammar). IsLine h parts last rest) (sym k) line, says)

  check : codes "check" ≡ w → SaysCheck parts last c → AreWordsOf c (w ∷ rest)
  check same (tests, budget, json, file, is, s) = found (Check tests budget json file) is same s

  replay : codes "replay" ≡ w → SaysReplay parts last c → AreWordsOf c (w ∷ rest)
  replay same (file, is, s) = found (Replay file) is same s

  table : codes "table" ≡ w → SaysTable parts last c → AreWordsOf c (w ∷ rest)
  table same (tests, budget, file, is, s) = found (Table tests budget file) is same s

  sample : codes "sample" ≡ w → SaysSample parts last c → AreWordsOf c (w ∷ rest)
  sample same (seed, count, is, s) = found (Sample seed count) is same s

  graph : codes "graph" ≡ w → SaysGraph parts last c → AreWordsOf c (w ∷ rest)
  graph same (file, is, s) = found (Graph file) is same s

  census : codes "census" ≡ w → SaysCensus parts last c → AreWordsOf c (w ∷ rest)
  census same (d, k, n, is, s) = found (Census d k n) is same s

  classical : codes "classical" ≡ w → SaysClassical parts last c → AreWordsOf c (w ∷ rest)
  classical same (file, is, s) = found (Classical file) is same s

  pub meaning : SaysNamed w parts last c → AreWordsOf c (w ∷ rest)
  meaning says =
      one_case (codes "check") w says check (λ says. one_case (codes "replay") w says replay (λ says. one_case (codes "table") w says table
      (λ says. one_case (codes "sample") w says sample (λ says. one_case (codes "graph") w says graph (λ says. one_case (codes "census") w says census
      (λ says. one_case (codes "classical") w says classical (λ says. absurd says)))))))

-- ---- one command

same_number : (m n : ℕ) → m ≤ 2147483647 → n ≤ 2147483647 → decimal m ≡ decimal n → m ≡ n
same_number m n h k e = decimal_injective m n (omega arith) (omega arith) e

one_tests : (o : Option Text) (tests others : List Test) → AreTests o tests → AreTests o others → tests ≡ others
one_tests None tests others h k = h ∙ sym k
one_tests (Some list) tests others h k = one_list list tests others h k

one_budget : (o : Option Text) (m n : ℕ) → IsBudget o m → IsBudget o n → m ≡ n
one_budget None m n h k = h ∙ sym k
one_budget (Some digits) m n (h, (least, most)) (k, (some, few)) = same_number m n (omega arith) (omega arith) (sym h ∙ k)

same_some : (xs ys : List Text) → map Some xs ≡ map Some ys → xs ≡ ys
same_some [] [] e = refl
same_some [] (y ∷ ys) e = absurd (cc e)
same_some (x ∷ xs) [] e = absurd (cc e)
same_some (x ∷ xs) (y ∷ ys) e =
    let first : x ≡ y = cc e in
    let rest : map Some xs ≡ map Some ys = cc e in
    ap₂ (λ s t. s ∷ t) first (same_some xs ys rest)

same_bool : (a b : Bool) → cond a (codes "true") (codes "false") ≡ cond b (codes "true") (codes "false") → a ≡ b
same_bool true true e = refl
same_bool true false e = absurd (cc e)
same_bool false true e = absurd (cc e)
same_bool false false e = refl

module _ (g : Grammar) (rows : List Row) (parts others : List Part) (last ends : List Text) (told : Tells g parts last rows) (again : Tells g others ends rows) where
  pub same_value : (n : Text) → has_name g.options n ≡ true → value_of n parts ≡ value_of n others
  same_value n h = sym (told.options n h) ∙ again.options n h

  pub same_flag : (n : Text) → has_name g.flags n ≡ true → has_flag n parts ≡ has_flag n others
  same_flag n h =
      let both : cond (has_flag n parts) (codes "true") (codes "false") ≡ cond (has_flag n others) (codes "true") (codes "false") = cc (told.flags n h, again.flags n h) in
      same_bool (has_flag n parts) (has_flag n others) both

  pub same_words : positional parts ++ last ≡ positional others ++ ends
  same_words = same_some (positional parts ++ last) (positional others ++ ends) (sym told.words ∙ again.words)

same_check : (tests others : List Test) (m n : ℕ) (a b : Bool) (file name : Text) → tests ≡ others → m ≡ n → a ≡ b → file ≡ name → Check tests m a file ≡ Check others n b name
same_check tests others m n a b file name e f h k = cc

same_table : (tests others : List Test) (m n : ℕ) (file name : Text) → tests ≡ others → m ≡ n → file ≡ name → Table tests m file ≡ Table others n name
same_table tests others m n file name e f k = cc

same_sample : (m n c k : ℕ) → m ≡ n → c ≡ k → Sample m c ≡ Sample n k
same_sample m n c k e f = cc

same_census : (d k n e l m : ℕ) → d ≡ e → k ≡ l → n ≡ m → Census d k n ≡ Census e l m
same_census d k n e l m f g h = cc

module _ (w : Text) (g : Grammar) (e : grammar_named commands w ≡ Some g) (rows : List Row) (parts others : List Part) (last ends : List Text)
    (told : Tells g parts last rows) (again : Tells g others ends rows) (c d : Command) where
  words : positional parts ++ last ≡ positional others ++ ends
  words = same_words g rows parts others last ends told again

  value : (name : Text) (k : Grammar) → grammar_named commands name ≡ Some k → name ≡ w → (n : Text) → has_name k.options n ≡ true → value_of n parts ≡ value_of n others
  value name k a same n h =
      same_value g rows parts others last ends told again n (subst (λ (x : Grammar). has_name x.options n ≡ true) (own name w k g a same e) h)

  flag : (name : Text) (k : Grammar) → grammar_named commands name ≡ Some k → name ≡ w → (n : Text) → has_name k.flags n ≡ true → has_flag n parts ≡ has_flag n others
  flag name k a same n h =
      same_flag g rows parts others last ends told again n (subst (λ (x : Grammar). has_name x.flags n ≡ true) (own name w k g a same e) h)

  file : (f h : Text) → positional parts ++ last ≡ f ∷ [] → positional others ++ ends ≡ h ∷ [] → f ≡ h
  file f h x y = let both : f ∷ [] ≡ h ∷ [] = sym x ∙ words ∙ y in cc both

  one_check : codes "check" ≡ w → SaysCheck parts last c → SaysCheck others ends d → c ≡ d
  one_check same (tests, budget, json, f, is, (t, b, j, x)) (tests2, budget2, json2, f2, is2, (t2, b2, j2, x2)) =
      let list : value_of (codes "tests") parts ≡ value_of (codes "tests") others = value (codes "check") check_grammar refl same (codes "tests") refl in
      let number : value_of (codes "budget") parts ≡ value_of (codes "budget") others = value (codes "check") check_grammar refl same (codes "budget") refl in
      is ∙ same_check tests tests2 budget budget2 json json2 f f2
      (one_tests (value_of (codes "tests") others) tests tests2 (subst (λ (o : Option Text). AreTests o tests) list t) t2)
      (one_budget (value_of (codes "budget") others) budget budget2 (subst (λ (o : Option Text). IsBudget o budget) number b) b2)
      (j ∙ flag (codes "check") check_grammar refl same (codes "json") refl ∙ sym j2) (file f f2 x x2) ∙ sym is2

  one_replay : codes "replay" ≡ w → SaysReplay parts last c → SaysReplay others ends d → c ≡ d
  one_replay same (f, is, x) (f2, is2, x2) = is ∙ ap Replay (file f f2 x x2) ∙ sym is2

  one_table : codes "table" ≡ w → SaysTable parts last c → SaysTable others ends d → c ≡ d
  one_table same (tests, budget, f, is, (t, b, x)) (tests2, budget2, f2, is2, (t2, b2, x2)) =
      let list : value_of (codes "tests") parts ≡ value_of (codes "tests") others = value (codes "table") table_grammar refl same (codes "tests") refl in
      let number : value_of (codes "budget") parts ≡ value_of (codes "budget") others = value (codes "table") table_grammar refl same (codes "budget") refl in
      is ∙ same_table tests tests2 budget budget2 f f2
      (one_tests (value_of (codes "tests") others) tests tests2 (subst (λ (o : Option Text). AreTests o tests) list t) t2)
      (one_budget (value_of (codes "budget") others) budget budget2 (subst (λ (o : Option Text). IsBudget o budget) number b) b2) (file f f2 x x2) ∙ sym is2

  one_sample : codes "sample" ≡ w → SaysSample parts last c → SaysSample others ends d → c ≡ d
  one_sample same (m, k, is, ((mleast, mmost), (kleast, kmost), x)) (m2, k2, is2, ((m2least, m2most), (k2least, k2most), x2)) =
      let both : decimal m ∷ decimal k ∷ [] ≡ decimal m2 ∷ decimal k2 ∷ [] = sym x ∙ words ∙ x2 in
      let first : decimal m ≡ decimal m2 = cc both in
      let second : decimal k ≡ decimal k2 = cc both in
      is ∙ same_sample m m2 k k2 (same_number m m2 mmost m2most first) (same_number k k2 (omega arith) (omega arith) second) ∙ sym is2

  one_graph : codes "graph" ≡ w → SaysGraph parts last c → SaysGraph others ends d → c ≡ d
  one_graph same (f, is, x) (f2, is2, x2) = is ∙ ap Graph (file f f2 x x2) ∙ sym is2

  one_census : codes "census" ≡ w → SaysCensus parts last c → SaysCensus others ends d → c ≡ d
  one_census same (m, k, n, is, ((mleast, mmost), (kleast, kmost), (nleast, nmost), x)) (m2, k2, n2, is2, ((m2least, m2most), (k2least, k2most), (n2least, n2most), x2)) =
      let all : decimal m ∷ decimal k ∷ decimal n ∷ [] ≡ decimal m2 ∷ decimal k2 ∷ decimal n2 ∷ [] = sym x ∙ words ∙ x2 in
      let first : decimal m ≡ decimal m2 = cc all in
      let second : decimal k ≡ decimal k2 = cc all in
      let third : decimal n ≡ decimal n2 = cc all in
      is ∙ same_census m k n m2 k2 n2 (same_number m m2 (omega arith) (omega arith) first) (same_number k k2 (omega arith) (omega arith) second)
      (same_number n n2 (omega arith) (omega arith) third) ∙ sym is2

  one_classical : codes "classical" ≡ w → SaysClassical parts last c → SaysClassical others ends d → c ≡ d
  one_classical same (f, is, x) (f2, is2, x2) = is ∙ ap Classical (file f f2 x x2) ∙ sym is2

  pub one_of_name : SaysNamed w parts last c → SaysNamed w others ends d → c ≡ d
  one_of_name s t =
      two_cases (codes "check") w s t one_check (λ s t. two_cases (codes "replay") w s t one_replay (λ s t. two_cases (codes "table") w s t one_table
      (λ s t. two_cases (codes "sample") w s t one_sample (λ s t. two_cases (codes "graph") w s t one_graph (λ s t. two_cases (codes "census") w s t one_census
      (λ s t. two_cases (codes "classical") w s t one_classical (λ s t. absurd s)))))))

lawful_of : (w : Text) (g : Grammar) → grammar_named commands w ≡ Some g → IsLawful g
lawful_of w g e = (app_rows drg_app commands drg_built refl are_lawful w [] g e).0

pub one_command : OneCommand
one_command all c d (rest, parts, last, e, line, says) (more, others, ends, f, again, told) =
    let name : name_of d ≡ name_of c = cc (e, f) in
    let tail : more ≡ rest = cc (e, f) in
    let g : grammar_of d ≡ grammar_of c = own (name_of d) (name_of c) (grammar_of d) (grammar_of c) (named_grammar d) name (named_grammar c) in
    let law = lawful_of (name_of c) (grammar_of c) (named_grammar c) in
    let second : IsLine (grammar_of c) others ends rest =
    subst (λ (t : List Text). IsLine (grammar_of c) others ends t) tail (subst (λ (h : Grammar). IsLine h others ends more) g again) in
    one_of_name (name_of c) (grammar_of c) (named_grammar c) (rows_after (rules (grammar_of c)) [] rest) parts others last ends
    (line_tells (name_of c) (grammar_of c) law parts last rest line) (line_tells (name_of c) (grammar_of c) law others ends rest second) c d
    (named_says c parts last says) (subst (λ t. SaysNamed t others ends d) name (named_says d others ends told))

-- ---- from clap's matches to the words

pub in_commands : (c : Command) (all : List Text) → AreWordsOf c all → InCommands commands all
in_commands c all (rest, parts, last, e, line, says) = subst (InCommands commands) (sym e) (grammar_of c, named_grammar c, (parts, last, line))

some_both : (a b : Text) (x y : List Row) → ◌≡◌ {A = Option (Text × List Row)} (Some (a, x)) (Some (b, y)) → (a ≡ b) × (x ≡ y)
some_both a b x y e =
    let pair : ◌≡◌ {A = Text × List Row} (a, x) (b, y) = cc e in
    (ap (λ (p : Text × List Row). p.0) pair, ap (λ (p : Text × List Row). p.1) pair)

-- the command that is read has these words
pub is_found : (all : List Text) → InCommands commands all → (name : Text) (rows : List Row) → subcommand_of drg_app all ≡ Some (name, rows) → (c : Command) → ReadsNamed name rows c → AreWordsOf c all
is_found [] h name rows s c reads = absurd h
is_found (w ∷ rest) (g, e, (parts, last, line)) name rows s c reads =
    let r = app_rows drg_app commands drg_built refl are_lawful w rest g e in
    let both = some_both w name (rows_after (rules g) [] rest) rows (sym r.1 ∙ s) in
    let told = subst (Tells g parts last) both.1 (line_tells w g r.0 parts last rest line) in
    let known : grammar_named commands name ≡ Some g = ap (grammar_named commands) (sym both.0) ∙ e in
    meaning w g rest last parts c e line (subst (λ t. SaysNamed t parts last c) (sym both.0) (reads g known parts last told))

-- where none is read, the words are no command
pub is_none : (all : List Text) (name : Text) (rows : List Row) → subcommand_of drg_app all ≡ Some (name, rows) → ReadsNoneNamed name rows → IsCommand all → ⊥
is_none all name rows s none (c, (rest, parts, last, e, line, says)) =
    let g = grammar_of c in
    let r = app_rows drg_app commands drg_built refl are_lawful (name_of c) rest g (named_grammar c) in
    let both = some_both (name_of c) name (rows_after (rules g) [] rest) rows (sym r.1 ∙ ap (subcommand_of drg_app) (sym e) ∙ s) in
    let told = subst (Tells g parts last) both.1 (line_tells (name_of c) g r.0 parts last rest line) in
    let known : grammar_named commands name ≡ Some g = ap (grammar_named commands) (sym both.0) ∙ named_grammar c in
    none g known parts last told c (subst (λ t. SaysNamed t parts last c) both.0 (named_says c parts last says))

-- the words of a command name one
pub no_entry : (all : List Text) → InCommands commands all → subcommand_of drg_app all ≡ None → ⊥
no_entry [] h s = h
no_entry (w ∷ rest) (g, e, line) s = cc ((app_rows drg_app commands drg_built refl are_lawful w rest g e).1, s)

sub_both : {B : Type 0} (f : B → Text) (h : B → List Row) (o : Option B) (name : Text) (rows : List Row) → Some name ≡ option_map f o
    → Some rows ≡ option_map (λ (p : Text × List Row). p.1) (option_map {U = Text × List Row} (λ b. (f b, h b)) o) → option_map {U = Text × List Row} (λ b. (f b, h b)) o ≡ Some (name, rows)
sub_both f h None name rows a b = absurd (cc a)
sub_both f h (Some x) name rows a b =
    let p : f x ≡ name = cc a in
    let q : h x ≡ rows = cc b in
    ap₂ {C = Option (Text × List Row)} (λ s t. Some (s, t)) p q

-- the name and the rows of the command that clap entered
pub entered_is : (m : ArgMatches) (name : Text) (rows : List Row) → Some name ≡ subcommand_name_of m → Some rows ≡ option_map (λ (p : Text × List Row). p.1) (subcommand_rows_of m)
    → subcommand_rows_of m ≡ Some (name, rows)
entered_is m name rows a b = sub_both _ _ (out-ArgMatches m).subcommand name rows a b

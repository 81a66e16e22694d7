-- What clap is told are the commands, each with its grammar, and clap's contracts say everything of them.
use Rattle.std.proofs.Common.{◌≡◌, refl, List, ◌↔◌, true, [], ◌∷◌, inl, inr}
use Rattle.std.specs.Prelude.{IsUtf8}
use Rattle.std.specs.List.{All}
use Rattle.clap.specs.Words.{HasKind, Kinds, Text, fault_of, is_simple_and_free, kind_of}
use Rattle.clap.specs.Simple.{built}
use Rattle.clap.specs.declared.error.Error.{Error}
use Rattle.clap.specs.declared.error.kind.ErrorKind.TheVariants as kind
use Rattle.clap.proofs.OnLiterals.{clap_on_literals}
use Rattle.drg_words.specs.Commands.{census_grammar, check_grammar, file_grammar, sample_grammar, table_grammar}
use Rattle.drg_words.specs.Matches.{commands, drg_app}
use Rattle.drg_words.proofs.Lawful.{AreLawful, InCommands, IsLawful}
use Rattle.drg_words.proofs.Commands.{app_exact, built_commands}

pub drg_built : built drg_app ≡ built_commands commands
unfolding clap_on_literals
drg_built = refl

pub drg_is_simple : is_simple_and_free drg_app ≡ true
unfolding clap_on_literals
drg_is_simple = refl

check_lawful : IsLawful check_grammar
check_lawful = record { options = refl; flags = refl; apart = refl; others = refl; once = refl; few = refl }

file_lawful : IsLawful file_grammar
file_lawful = record { options = refl; flags = refl; apart = refl; others = refl; once = refl; few = refl }

table_lawful : IsLawful table_grammar
table_lawful = record { options = refl; flags = refl; apart = refl; others = refl; once = refl; few = refl }

sample_lawful : IsLawful sample_grammar
sample_lawful = record { options = refl; flags = refl; apart = refl; others = refl; once = refl; few = refl }

census_lawful : IsLawful census_grammar
census_lawful = record { options = refl; flags = refl; apart = refl; others = refl; once = refl; few = refl }

pub are_lawful : AreLawful commands
are_lawful = (check_lawful, (file_lawful, (table_lawful, (sample_lawful, (file_lawful, (census_lawful, (file_lawful, tt)))))))

pub drg_exact : (words : List Text) → All IsUtf8 words → (fault_of drg_app words ≡ []) ↔ InCommands commands words
drg_exact words u = app_exact drg_app commands drg_built refl are_lawful words u

-- an error that isn't want of memory has a kind
pub no_kind : (kinds : Kinds) (e : Error) → HasKind kinds e → (kind_of e ≡ kind.OutOfMemory → ⊥) → kinds ≡ [] → ⊥
no_kind kinds e (inl o) n z = n o
no_kind [] e (inr a) n z = a
no_kind (k ∷ ks) e (inr a) n z = cc z

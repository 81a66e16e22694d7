-- What clap's answer on the words says of them: the command that is read has them, and where none is read, they are no
-- command.
use Rattle.std.proofs.Common.{◌≡◌, ◌∙◌, refl, true, zero, suc, [], ◌∷◌, List, Some, None, Option, option_map, ap, sym, arith}
use Rattle.std.specs.Prelude.{IsUtf8, String}
use Rattle.std.specs.declared.alloc.Global.{Global}
use Rattle.std.specs.List.{All}
use Rattle.std.proofs.lemmas.Str.{IsUtf8-string_bytes}
use Rattle.clap.specs.Walk.{Row, Text}
use Rattle.clap.specs.Words.{App, HasKind, HasMatchesOf, fault_of, is_simple, kind_of, subcommand_name_of, subcommand_of, subcommand_rows_of}
use Rattle.clap.specs.declared.error.Error.{Error}
use Rattle.clap.specs.declared.error.kind.ErrorKind.TheVariants as kind
use Rattle.clap.specs.declared.parser.matches.ArgMatches.{ArgMatches}
use Rattle.clap.specs.declared.parser.matches.ArgMatches.TheViews.{out-ArgMatches}
use Rattle.clap.proofs.OnLiterals.{clap_on_literals}
use Rattle.drg_words.specs.Commands.{AreWordsOf, IsCommand, words_of}
use Rattle.drg_words.specs.Matches.{ReadsNamed, ReadsNoneNamed, commands, drg_app}
use Rattle.drg_words.specs.declared.command.Command.{Command}
use Rattle.drg_words.proofs.Built.{drg_exact, no_kind}
use Rattle.drg_words.proofs.Lawful.{InCommands}
use Rattle.drg_words.proofs.Meanings.{entered_is, in_commands, is_found, is_none, no_entry}

pub are_utf8 : (words : List (String Global)) → All IsUtf8 (words_of words)
are_utf8 [] k d lt = absurd (omega arith)
are_utf8 (w ∷ ws) zero d lt = IsUtf8-string_bytes w
are_utf8 (w ∷ ws) (suc k) d lt = are_utf8 ws k d (omega arith)

simple : is_simple drg_app ≡ true
unfolding clap_on_literals
simple = refl

sub_none : {B : Type 0} (f : B → Text) (h : B → List Row) (o : Option B) → None ≡ option_map f o → option_map {U = Text × List Row} (λ b. (f b, h b)) o ≡ None
sub_none f h None a = refl
sub_none f h (Some x) a = absurd (cc a)

module _ (app : App) (all : List Text) (e : app ≡ drg_app) (u : All IsUtf8 all) where
  -- a fault that isn't want of memory
  pub err_usage : (error : Error) → HasKind (fault_of app all) error → (kind_of error ≡ kind.OutOfMemory → ⊥) → IsCommand all → ⊥
  err_usage error h n is = no_kind (fault_of app all) error h n (ap (λ (a : App). fault_of a all) e ∙ (drg_exact all u).1 (in_commands is.0 all is.1))

  module _ (m : ArgMatches) (f : fault_of app all ≡ []) (h : HasMatchesOf app all m) where
    entered : subcommand_rows_of m ≡ subcommand_of drg_app all
    entered = (h (ap is_simple e ∙ simple)).1 ∙ ap (λ (a : App). subcommand_of a all) e

    is_in : InCommands commands all
    is_in = (drg_exact all u).0 (sym (ap (λ (a : App). fault_of a all) e) ∙ f)

    -- a command is always entered
    pub no_sub : None ≡ subcommand_name_of m → ⊥
    no_sub a = no_entry all is_in (sym entered ∙ sub_none _ _ (out-ArgMatches m).subcommand a)

    module _ (name : Text) (rows : List Row) (a : Some name ≡ subcommand_name_of m) (b : Some rows ≡ option_map (λ (p : Text × List Row). p.1) (subcommand_rows_of m)) where
      pub ok_command : (c : Command) → ReadsNamed name rows c → AreWordsOf c all
      ok_command c reads = is_found all is_in name rows (sym entered ∙ entered_is m name rows a b) c reads

      pub ok_usage : ReadsNoneNamed name rows → IsCommand all → ⊥
      ok_usage none is = is_none all name rows (sym entered ∙ entered_is m name rows a b) none is

use Rattle.drg_derivation.proofs.Decisions.{line-or-bad, lines-of-derivation}
use Rattle.drg_derivation.proofs.Prefixes.{one-take, line-or-refusal, stops-from}
use Rattle.drg_derivation.proofs.ReadingLaws.{refused-at}
use Rattle.drg_derivation.proofs.TextFacts.{hands-begins}
use Rattle.drg_derivation.proofs.laws.line_reader_law.Goals as goal

pub returns : goal.returns
returns c = record {
  lines = hands-begins;
  derivation = lines-of-derivation;
  refusal = λ bytes number. (stops-from bytes number, refused-at bytes number);
  either = line-or-bad;
  not_both = line-or-refusal;
  one = one-take;
}

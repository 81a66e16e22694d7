use Rattle.std.proofs.Common.{◌≡◌, ◌∙◌, ap, sym, Some, List, ℕ, inr, true}
use Rattle.csv.specs.declared.reader.ReaderBuilder.{ReaderBuilder}
use Rattle.csv.specs.Reading.{Reached, strip_bom, with_flexible}
use Rattle.drg_tables.specs.Reading.{bytes_left, known, source}
use Rattle.drg_tables.proofs.reading.reader_of.Goals as goal

pub returns : goal.returns
unfolding Reached
returns c =
    let made = c.from_reader.ensures in
    let e = c.flexible.ensures ∙ ap (λ (b : ReaderBuilder). with_flexible b true) c.has_headers.ensures in
    let all : source c.from_reader.result ≡ Some (strip_bom c.args.bytes.now) = made.source in
    let left : bytes_left c.from_reader.result ≡ strip_bom c.args.bytes.now = ap known all in
    record {
      plain = rw e at made.trim ∙ c.new.ensures.trim;
      ready = inr (inr (rw e at made.has_headers, made.headers));
      config = rw e at made.config ∙ c.new.ensures.config;
      left = all ∙ ap (λ (l : List ℕ). Some l) (sym left);
      reached = (sym made.state, sym left);
    }

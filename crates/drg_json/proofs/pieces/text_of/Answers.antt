use Rattle.std.proofs.Common.{IsOk, subst}
use Rattle.std.proofs.lemmas.Str.{IsUtf8-from_ascii}
use Rattle.drg_json.proofs.pieces.text_of.Goals as goal

pub unreachable-requires : goal.unreachable-requires
unreachable-requires c =
    let never = subst IsOk c.in_default.is (c.from_utf8.ensures.succeeds (IsUtf8-from_ascii c.args.bytes.items c.requires)) in
    cc

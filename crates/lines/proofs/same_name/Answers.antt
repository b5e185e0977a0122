use Rattle.std.proofs.Common.{map, sym, ◌∙◌}
use Rattle.std.specs.Char.{to_ascii_lowercase}
use Rattle.std.specs.Str.{bytes_eq}
use Rattle.std.proofs.lemmas.Slice.Eq.{bytes_eq-Decides}
use Rattle.std.proofs.lemmas.Bool.Decides.{same_from_decides}
use Rattle.lines.proofs.Names.{name_lower}
use Rattle.lines.proofs.same_name.Goals as goal

pub returns : goal.returns
returns c =
    let a = map to_ascii_lowercase c.args.a.now in
    let b = map to_ascii_lowercase c.args.b.now in
    same_from_decides _ (bytes_eq a b) c.eq_ignore_ascii_case.ensures.test (bytes_eq-Decides a b) ∙ sym (name_lower c.args.a.now c.args.b.now)

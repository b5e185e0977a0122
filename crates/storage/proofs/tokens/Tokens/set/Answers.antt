use Rattle.std.proofs.Common.{Some, None, arith}
use Rattle.std.specs.Option.{option_map}
use Rattle.bounded.specs.Texts.{text_of}
use Rattle.storage.proofs.Updates.{set_at}
use Rattle.storage.proofs.tokens.Tokens.set.Goals as goal

pub returns : goal.returns
returns c = set_at (option_map text_of) None c.args.self.now.tokens _ _ (Some c.args.token.now) c.number.ensures.is (omega arith)

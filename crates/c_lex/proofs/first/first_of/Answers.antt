use Rattle.std.proofs.Common.{◌≡◌, ◌<◌, ◌∙◌, get_or, rules}
use Rattle.c_lex.specs.declared.first.First.TheVariants as first
use Rattle.c_lex.specs.declared.first.TheConstants.{FIRSTS}
use Rattle.c_lex.proofs.Firsts.{first_at}
use Rattle.c_lex.proofs.first.first_of.Goals as goal

pub returns : goal.returns
returns c =
    let few : c.args.b < 256 = search rules in
    let row : c.entry.result ≡ get_or FIRSTS c.from.result first.Other = c.entry.ensures in
    let at : c.from.result ≡ c.args.b = search rules in
    row ∙ rw at (first_at c.args.b few)

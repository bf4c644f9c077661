use Rattle.std.proofs.Common.{◌≡◌, ◌≤◌, length, true, arith}
use Rattle.c_tree.specs.Limits.{most_tokens}
use Rattle.c_words.specs.Unworded.{has_no_words}
use Rattle.c_words.proofs.WordedFacts.{unit_stays}
use Rattle.c_words.proofs.pass.worded.Goals as goal

pub returns-then-has_no_words-clause-ok : goal.returns-then-has_no_words-clause-ok
returns-then-has_no_words-clause-ok c =
    let few : length c.args.tokens.items ≤ most_tokens =
    omega (arith, c.if-len-le-MOST_TOKENS.true, c.len.ensures) in
    let told = c.has_no_words.ensures in
    let same = c.deref.ensures.value in
    let yes = c.if-has_no_words.true in
    let plain : has_no_words c.args.tokens.items ≡ true = cc in
    unit_stays most_tokens c.args.tokens.items plain few

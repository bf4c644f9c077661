use Rattle.std.proofs.Common.{◌≡◌, ◌≤◌, true, length, arith}
use Rattle.c_tree.specs.Limits.{most_tokens}
use Rattle.c_locals.specs.Objects.{has_no_objects}
use Rattle.c_locals.proofs.ObjectFacts.{objects_within}
use Rattle.c_locals.proofs.objects.with_objects.Goals as goal

pub returns-then-has_no_objects-clause-ok : goal.returns-then-has_no_objects-clause-ok
returns-then-has_no_objects-clause-ok c =
    let value = c.has_no_objects.ensures in
    let same = c.deref.ensures.value in
    let holds = c.if-has_no_objects.true in
    let none : has_no_objects c.args.tokens.items ≡ true = cc in
    let few : length c.args.tokens.items ≤ most_tokens =
    omega (arith, c.len.ensures, c.if-len-le-MOST_TOKENS.true) in
    objects_within most_tokens c.args.tokens.items none few

use Rattle.std.proofs.Common.{◌≡◌, ℕ, List, codes, subst}
use Rattle.std.specs.Prelude.{OnOk}
use Rattle.c_tree.specs.declared.Mark.TheVariants.{Plus}
use Rattle.c_library.specs.Terms.{call, with_part}
use Rattle.c_library.proofs.terms.put_signed.Goals as goal

pub returns : goal.returns
returns c =
    subst
    (λ (values : List ℕ). OnOk c.put_call.result
    (c.put_call.new.terms ≡ with_part Plus c.args.terms.now (call (codes "print.signed") c.args.argument values)))
    c.signed_values.ensures c.put_call.ensures

use Rattle.std.proofs.Common.{◌≡◌, ℕ, List, Bool, true, false, cond, sym, ap, ◌∙◌}
use Rattle.hyper_narrow.specs.inside.NarrowedCode.{outlasts}
use Rattle.predication.specs.inside.Environments.{member}
use Rattle.predication.proofs.WrittenLemmas.{member_among}
use Rattle.predication.proofs.outputs.is_written.Goals as goal

pub returns-then-is_member : goal.returns-then-is_member
returns-then-is_member c =
    let set = c.args.lasting in
    let r = c.args.register in
    let here : member r c.args.names.now.sets ≡ true =
    ap (λ (rs : List ℕ). member r rs) (sym c.as_slice.ensures.value) ∙ sym c.is_member.ensures
    ∙ c.if-is_member.true in
    c.outlasts.ensures
    ∙ sym (member_among set r c.args.names.now.sets ∙ ap (λ (b : Bool). cond b (outlasts set r) false) here)

pub returns-else-is_member : goal.returns-else-is_member
returns-else-is_member c =
    let set = c.args.lasting in
    let r = c.args.register in
    let here : member r c.args.names.now.sets ≡ false =
    ap (λ (rs : List ℕ). member r rs) (sym c.as_slice.ensures.value) ∙ sym c.is_member.ensures
    ∙ c.if-is_member.false in
    c.if-is_member.false
    ∙ sym (member_among set r c.args.names.now.sets ∙ ap (λ (b : Bool). cond b (outlasts set r) false) here)

use Rattle.std.proofs.Common.{◌≡◌, ◌<◌, ◌∙◌, sym, ap, subst, List, Option, ℕ, length, reverse}
use Rattle.std.proofs.Common.{arith}
use Rattle.std.proofs.lemmas.List.{length-set}
use Rattle.c_type_expr.specs.declared.meaning.Entry.{Entry}
use Rattle.c_type_expr.specs.inside.Chains.{Kept}
use Rattle.c_type_expr.proofs.Chains.{whole}
use Rattle.c_type_expr.proofs.LinkedChains.{linked_last}
use Rattle.c_type_expr.proofs.entries.add.Goals as goal

pub returns-clause-kept : goal.returns-clause-kept
returns-clause-kept c =
    let heads : List (Option ℕ) = c.put-older.new.heads in
    let old : c.as_mut_slice-2.result.now ≡ c.make_room.new.heads.items =
    c.as_mut_slice-2.ensures.value in
    let new : length heads ≡ length c.make_room.new.heads.items =
    ap (length {A = Option ℕ}) c.put-older.ensures.heads ∙ length-set _ _ _
    ∙ ap (length {A = Option ℕ}) old in
    let all = whole c.make_room.new.heads.len heads c.make_room.new.heads.items
    (omega (arith, new, c.make_room.new.heads.ok.0)) in
    let some : 0 < length c.as_mut_slice-2.result.now =
    subst (λ (h : List (Option ℕ)). 0 < length h) (sym old) c.in_ok-make_room.ensures.ok in
    subst (λ (h : List (Option ℕ)). Kept (reverse c.push_reserved.new.self.items) h) (sym all)
    (linked_last c.push_reserved.new.self.items _ _ c.as_slice.result.now _
    c.as_mut_slice-2.result.now heads some c.as_slice.ensures.value
    (subst (λ (h : List (Option ℕ)). Kept (reverse c.reserve.new.self.items) h) (sym old)
    (subst (λ (es : List Entry). Kept (reverse es) c.make_room.new.heads.items)
    (sym (c.reserve.ensures.items
    ∙ whole c.args.entries.now.len c.make_room.new.entries c.args.entries.now.items
    (omega (arith, c.make_room.auto.entries, c.as_mut_slice.ensures.len))))
    c.make_room.ensures.kept))
    (omega (arith, c.len.ensures, c.reserve.new.self.ok.0)) c.push_reserved.ensures.items
    c.put-older.ensures.older c.put-older.ensures.heads)

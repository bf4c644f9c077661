use Rattle.std.proofs.Common.{ℕ, ◌+◌, ◌*◌, ◌++◌, get_or, length, lit<, map, take, sym, ap, ◌∙◌, arith}
use Rattle.std.specs.Prelude.{[], ◌∷◌}
use Rattle.std.proofs.lemmas.List.{append-nil, append_assoc, length-append, map-append, take_all, take_more}
use Rattle.smt_mode.proofs.network.add_frames.Goals as goal

pub loop-i-init : goal.loop-i-init
loop-i-init c = record { value = sym (append-nil c.args.order.now.items); size = omega arith }

pub push-requires : goal.push-requires
push-requires c =
    let size = c.loop-i.invariant.size in
    let room = c.requires.room in
    (lit< tt, omega (arith, size, room))

pub loop-i-preserved : goal.loop-i-preserved
loop-i-preserved c =
    let ns = c.args.frames.now in
    let i = c.loop-i.i in
    let f : ℕ → ℕ = λ n. 2 * c.args.program + n in
    let old = c.args.order.now.items in
    record {
      value = c.push.ensures.items ∙ ap (λ ks. ks ++ f (get_or ns i 0) ∷ []) c.loop-i.invariant.value
          ∙ append_assoc old (map f (take i ns)) (f (get_or ns i 0) ∷ [])
          ∙ sym (ap (λ ks. old ++ ks) (ap (map f) (take_more ns i 0 (omega arith))
          ∙ map-append f (take i ns) (get_or ns i 0 ∷ [])));
      size = let e = ap length c.push.ensures.items
          ∙ length-append c.loop-i.order.items (f (get_or ns i 0) ∷ []) in
          let s = c.loop-i.invariant.size in omega (arith, e, s);
    }

pub returns : goal.returns
returns c =
    let ns = c.args.frames.now in
    c.loop-i.invariant.value
    ∙ ap (λ ks. c.args.order.now.items ++ map (λ n. 2 * c.args.program + n) ks) (take_all c.loop-i.i ns (omega arith))

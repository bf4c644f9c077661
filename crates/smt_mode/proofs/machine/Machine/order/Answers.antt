use Rattle.std.proofs.Common.{◌≡◌, ◌+◌, ◌*◌, ◌<◌, ◌++◌, drop, get_or, map, length, sym, ap, ◌∙◌, subst, arith}
use Rattle.std.proofs.lemmas.List.{append-nil, append_assoc, at_drop_all, length-append, length-map}
use Rattle.std.proofs.lemmas.List.Elements.{All-get_or, All-more}
use Rattle.std.proofs.lemmas.Option.{slice_get_read}
use Rattle.commit_flush_spec.specs.inside.Laws.{AreNumbers}
use Rattle.grid_cycle_spec.specs.Grid.{numbers_of}
use Rattle.smt_spec.specs.Programs as shared
use Rattle.smt_mode.specs.Machines.{four_of, own_in}
use Rattle.smt_mode.specs.inside.Rooms.{AreApart}
use Rattle.smt_mode.proofs.Chosen.{next_of}
use Rattle.smt_mode.proofs.machine.Machine.order.Goals as goal

pub index-requires : goal.index-requires
index-requires g c =
    let four = c.requires.four in
    let l = All-get_or (λ p. p < 4) c.args.programs.now c.loop-i.i 0 (omega arith) c.requires.within in
    omega (arith, four, l)

pub add_frames-requires-clause-room : goal.add_frames-requires-clause-room
add_frames-requires-clause-room g c =
    let size = c.loop-i.invariant.size in
    let few = c.requires.few in
    omega (arith, size, few)

pub loop-i-preserved : goal.loop-i-preserved
loop-i-preserved g c =
    let m = c.args.self.now in
    let ps = c.args.programs.now in
    let i = c.loop-i.i in
    let p = get_or ps i 0 in
    let v = c.loop-i.invariant in
    let x = c.index.result.now in
    let l = All-get_or (λ q. q < 4) ps i 0 (omega arith) c.requires.within in
    let is = slice_get_read m.programs.items 4 p x (sym c.requires.four) l c.index.ensures in
    let ns : c.as_slice.result.now ≡ numbers_of ((four_of m).own p).window.frames =
    c.as_slice.ensures.value ∙ c.numbers-frames.ensures.value
    ∙ ap (λ o. numbers_of (own_in o).window.frames) (sym is) in
    let add = c.add_frames.ensures ∙ ap (λ ks. c.loop-i.order.items ++ map (λ n. 2 * p + n) ks) ns in
    let rest = shared.order (four_of m) (drop (i + 1) ps) in
    record {
      value = ap (λ ks. ks ++ rest) add
          ∙ append_assoc c.loop-i.order.items (map (λ n. 2 * p + n) (numbers_of ((four_of m).own p).window.frames))
          rest
          ∙ sym (ap (λ qs. c.loop-i.order.items ++ shared.order (four_of m) qs) (next_of ps i (omega arith)))
          ∙ v.value;
      size = let a = ap length c.add_frames.ensures
          ∙ length-append c.loop-i.order.items (map (λ n. 2 * p + n) c.as_slice.result.now) in
          let b = length-map c.as_slice.result.now (λ n. 2 * p + n) in
          let z = v.size in omega (arith, a, b, z);
      apart = All-more (AreApart m) ps i 0 (omega arith) v.apart
          (subst AreNumbers (c.numbers-frames.ensures.value ∙ ap (λ o. numbers_of (own_in o).window.frames) (sym is))
          c.numbers-frames.ensures.distinct);
    }

pub returns-clause-value : goal.returns-clause-value
returns-clause-value g c =
    let m = c.args.self.now in
    let ps = c.args.programs.now in
    sym (ap (λ qs. c.loop-i.order.items ++ shared.order (four_of m) qs)
    (at_drop_all (λ qs. qs) ps c.loop-i.i (omega arith)) ∙ append-nil c.loop-i.order.items) ∙ c.loop-i.invariant.value

use Rattle.std.proofs.Common.{◌≡◌, ◌<◌, ◌≤◌, ◌+◌, ◌&&◌, not, ℕ, Bool, true, false, Option, Some, None, inl, inr}
use Rattle.std.proofs.Common.{refl, sym, ap, ap₂, ◌∙◌, arith}
use Rattle.std.proofs.lemmas.Bool.{cases_eq, cases_lt}
use Rattle.trips_isa.specs.declared.block.Stored.{Stored}
use Rattle.commit_flush_spec.specs.Frames.{at, numbers}
use Rattle.commit_flush_spec.specs.Older.{covers}
use Rattle.frame_state.specs.inside.Held.{all_taken}
use Rattle.lsq_order.specs.inside.Reached.{reached, narrowed}
use Rattle.lsq_order.specs.inside.Wrong.{is_wrong}
use Rattle.lsq_order.proofs.WrongFacts.{numbers_are, narrowed_start, narrowed_next, narrowed_gap, wrong_is}
use Rattle.lsq_order.proofs.WrongFacts.{found_is, own_found, left_is, own_left}
use Rattle.lsq_order.proofs.WrongFacts.{no_load_between, no_store_between, unanswered}
use Rattle.lsq_order.proofs.reach.Reach.first_wrong.Goals as goal

pub loop-n-init : goal.loop-n-init
loop-n-init c =
    let stores : ℕ → Option Stored = at c.args.stores.now in
    let w = c.next_from-n.ensures in
    record {
      onward = w.onward;
      within = w.within;
      reach = λ a. narrowed_start stores c.args.from (reached c.args.self.now) a
          ∙ narrowed_gap stores c.args.from c.args.from c.next_from-n.result (reached c.args.self.now) a
          (omega arith) w.onward
          (no_store_between c.args.stores.now c.args.loads.now c.word.result c.word-2.result c.args.from
          c.next_from-n.result
          c.word.ensures.value c.word-2.ensures.value w);
      none = λ m h k. unanswered stores c.args.loads.now (reached c.args.self.now) c.args.from m
          (no_load_between c.args.stores.now c.args.loads.now c.word.result c.word-2.result c.args.from
          c.next_from-n.result
          c.word.ensures.value c.word-2.ensures.value w m h k);
    }

pub returns-then-is_taken-clause-found : goal.returns-then-is_taken-clause-found
returns-then-is_taken-clause-found c = record {
  from_on = c.loop-n.invariant.onward;
  below = omega arith;
  wrong = wrong_is (at c.args.stores.now) c.args.loads.now (reached c.args.self.now)
      (reached c.loop-n.self) c.args.from
      c.loop-n.n c.get.result true c.loop-n.invariant.reach c.get.ensures.value c.if-is_taken.ensures;
  lowest = c.loop-n.invariant.none;
}

pub returns-then-is_taken-clause-younger : goal.returns-then-is_taken-clause-younger
returns-then-is_taken-clause-younger c =
    found_is (at c.args.stores.now) (all_taken c.args.loads.now) (reached c.args.self.now) c.args.from
    (Some c.loop-n.n) (returns-then-is_taken-clause-found c)

pub returns-then-is_taken-clause-own : goal.returns-then-is_taken-clause-own
returns-then-is_taken-clause-own c =
    own_found (at c.args.stores.now) (all_taken c.args.loads.now) (reached c.args.self.now) c.args.from
    (Some c.loop-n.n) (returns-then-is_taken-clause-found c)

pub loop-n-preserved : goal.loop-n-preserved
loop-n-preserved c =
    let stores : ℕ → Option Stored = at c.args.stores.now in
    let w = c.next_from-n-in-loop-n.ensures in
    let on = w.onward in
    let from = c.loop-n.invariant.onward in
    record {
      onward = omega (arith, on, from);
      within = w.within;
      reach = λ (a : ℕ). c.narrow.ensures a
          ∙ ap₂ (λ (s : Option Stored) (b : Bool). not (covers s a) && b) c.get-in-loop-n.ensures.value
          (c.loop-n.invariant.reach a)
          ∙ sym (narrowed_next stores c.args.from c.loop-n.n (c.loop-n.n + 1) (reached c.args.self.now) a from refl)
          ∙ narrowed_gap stores c.args.from (c.loop-n.n + 1) c.next_from-n-in-loop-n.result
          (reached c.args.self.now) a
          (omega (arith, from)) on
          (no_store_between c.args.stores.now c.args.loads.now c.word.result c.word-2.result (c.loop-n.n + 1)
          c.next_from-n-in-loop-n.result c.word.ensures.value c.word-2.ensures.value w);
      none = λ (m : ℕ) (h : c.args.from ≤ m) (k : m < c.next_from-n-in-loop-n.result). elim
          (cases_lt m (c.loop-n.n + 1)) [
            | inr past ↦ unanswered stores c.args.loads.now (reached c.args.self.now) c.args.from m
                (no_load_between c.args.stores.now c.args.loads.now c.word.result c.word-2.result (c.loop-n.n + 1)
                c.next_from-n-in-loop-n.result c.word.ensures.value c.word-2.ensures.value w m past k)
            | inl below ↦ elim (cases_eq m c.loop-n.n) [
              | inl e ↦ ap (is_wrong stores (all_taken c.args.loads.now) (reached c.args.self.now) c.args.from) e
                  ∙ wrong_is stores c.args.loads.now (reached c.args.self.now)
                  (reached c.loop-n.self) c.args.from c.loop-n.n
                  c.get.result false c.loop-n.invariant.reach c.get.ensures.value c.if-is_taken.ensures
              | inr ne ↦ c.loop-n.invariant.none m h (omega (arith, below, ne))
            ]
          ];
    }

pub returns-clause-found : goal.returns-clause-found
returns-clause-found c = λ m h k.
    let end : 32 ≤ c.loop-n.n = omega arith in
    c.loop-n.invariant.none m h (omega (arith, k, end))

pub returns-clause-left : goal.returns-clause-left
returns-clause-left c = λ e a.
    let all : c.loop-n.n ≡ numbers =
    (let end : c.loop-n.n ≡ 32 = (let w = c.loop-n.invariant.within in omega (arith, w)) in
    end ∙ sym numbers_are) in
    c.loop-n.invariant.reach a
    ∙ ap (λ n. narrowed (at c.args.stores.now) c.args.from n (reached c.args.self.now) a) all

pub returns-clause-younger : goal.returns-clause-younger
returns-clause-younger c =
    found_is (at c.args.stores.now) (all_taken c.args.loads.now) (reached c.args.self.now) c.args.from None
    (returns-clause-found c)

pub returns-clause-own : goal.returns-clause-own
returns-clause-own c =
    own_found (at c.args.stores.now) (all_taken c.args.loads.now) (reached c.args.self.now) c.args.from None
    (returns-clause-found c)

pub returns-clause-own_passed : goal.returns-clause-own_passed
returns-clause-own_passed c = λ m z h e a. returns-clause-left c e a
    ∙ own_left (at c.args.stores.now) (reached c.args.self.now) c.args.from m a c.requires.from z h

pub returns-clause-passed : goal.returns-clause-passed
returns-clause-passed c = λ z e a. returns-clause-left c e a
    ∙ left_is (at c.args.stores.now) (reached c.args.self.now) c.args.from a z

use Rattle.std.proofs.Common.{◌≡◌, ◌≤◌, ℕ, arith}
use Rattle.block_check.proofs.Exactness.{ranked_acyclic}
use Rattle.block_check.proofs.judge.judge_marks.Goals as goal

few_of : (k n : ℕ) → k ≤ 256 → n ≡ k → n ≤ 256
few_of k n h e = omega arith

pub returns-then-count-gt256 : goal.returns-then-count-gt256
returns-then-count-gt256 c = (
  ranked_acyclic c.args.nodes.now c.requires.ranked,
  c.requires.explored.many c.if-count-gt256.true,
)

pub returns-then-first-lt-EXIT : goal.returns-then-first-lt-EXIT
returns-then-first-lt-EXIT c =
    let few = c.if-count-gt256.false in
    record {
      acyclic = ranked_acyclic c.args.nodes.now c.requires.ranked;
      few = few_of _ _ few (c.requires.explored.few few);
      below = c.if-first-lt-EXIT.true;
      two = c.requires.explored.twos few _ (omega arith) (c.first_mark-first.ensures.found
          c.if-first-lt-EXIT.true);
      least = λ p lt. c.requires.explored.no_twos few p (omega arith)
          (c.first_mark-first.ensures.before p lt);
    }

pub returns-then-gap-lt-EXIT : goal.returns-then-gap-lt-EXIT
returns-then-gap-lt-EXIT c =
    let few = c.if-count-gt256.false in
    record {
      acyclic = ranked_acyclic c.args.nodes.now c.requires.ranked;
      few = few_of _ _ few (c.requires.explored.few few);
      no_two = λ p lt. c.requires.explored.no_twos few p (omega arith)
          (c.first_mark-first.ensures.before p (omega arith));
      below = c.if-gap-lt-EXIT.true;
      is_wanted = c.first_wanted-gap.ensures.is_wanted c.if-gap-lt-EXIT.true;
      none = c.requires.explored.nones few _ (omega arith) (c.first_wanted-gap.ensures.found
          c.if-gap-lt-EXIT.true);
      least = λ p lt w. c.requires.explored.no_nones few p (omega arith)
          (c.first_wanted-gap.ensures.before p lt w);
    }

pub returns-then-none : goal.returns-then-none
returns-then-none c =
    let few = c.if-count-gt256.false in
    record {
      acyclic = ranked_acyclic c.args.nodes.now c.requires.ranked;
      few = few_of _ _ few (c.requires.explored.few few);
      no_two = λ p lt. c.requires.explored.no_twos few p (omega arith)
          (c.first_mark-first.ensures.before p (omega arith));
      no_gap = λ p lt w. c.requires.explored.no_nones few p (omega arith)
          (c.first_wanted-gap.ensures.before p (omega arith) w);
      none = c.requires.explored.nones few 448 (omega arith) c.if-none.true;
    }

pub returns-then-two : goal.returns-then-two
returns-then-two c =
    let few = c.if-count-gt256.false in
    record {
      acyclic = ranked_acyclic c.args.nodes.now c.requires.ranked;
      few = few_of _ _ few (c.requires.explored.few few);
      no_two = λ p lt. c.requires.explored.no_twos few p (omega arith)
          (c.first_mark-first.ensures.before p (omega arith));
      no_gap = λ p lt w. c.requires.explored.no_nones few p (omega arith)
          (c.first_wanted-gap.ensures.before p (omega arith) w);
      exit = c.requires.explored.no_nones few 448 (omega arith) c.if-none.false;
      two = c.requires.explored.twos few 448 (omega arith) c.if-two.true;
    }

pub returns : goal.returns
returns c =
    let few = c.if-count-gt256.false in
    record {
      acyclic = ranked_acyclic c.args.nodes.now c.requires.ranked;
      few = few_of _ _ few (c.requires.explored.few few);
      no_two = λ p lt. c.requires.explored.no_twos few p (omega arith)
          (c.first_mark-first.ensures.before p (omega arith));
      no_gap = λ p lt w. c.requires.explored.no_nones few p (omega arith)
          (c.first_wanted-gap.ensures.before p (omega arith) w);
      exit = c.requires.explored.no_nones few 448 (omega arith) c.if-none.false;
      one_exit = c.requires.explored.no_twos few 448 (omega arith) c.if-two.false;
    }

-- Runs of a program and of what is left of it, narrowed.
use Rattle.std.proofs.Common.{◌≡◌, ℕ, zero, suc, ◌%◌, Bool, true, false, cond, List, [], ◌∷◌, ◌++◌}
use Rattle.std.proofs.Common.{map, refl, sym, ap, ap₂, ◌∙◌, subst, nat_eq, bit_or}
use Rattle.ir_forms.specs.declared.hyper.Exit.{Exit}
use Rattle.ir_forms.specs.declared.hyper.Exit.TheVariants as exit
use Rattle.ir_forms.specs.inside.HyperCode.{Tail, Leave, Test, Block}
use Rattle.ir_forms.specs.inside.HyperRuns.{Machine, Layout, Standing, Running, Ended, Full, with_register, value_of}
use Rattle.ir_forms.specs.inside.HyperRuns.{pick, after_items, exit_of, with_next, next_label, leaving, system}
use Rattle.ir_forms.specs.inside.HyperRuns.{block_at, if_clean, leave, run, start, hyper_run}
use Rattle.hyper_narrow.specs.declared.narrowed.Lasting.{Lasting}
use Rattle.hyper_narrow.specs.declared.narrowed.Lasting.TheVariants.{Every, Those}
use Rattle.hyper_narrow.specs.inside.NarrowedCode.{Narrowed, outlasts}
use Rattle.hyper_narrow.specs.inside.NarrowedRuns.{keeping, narrowed_at, go_on, run_narrowed, narrowed_run}
use Rattle.hyper_trim.specs.inside.Sets.{bit, without, read_by, matters, Within}
use Rattle.hyper_trim.specs.inside.Alive.{alive_at, live_exit, live_tail, lasting_exit, lasting_tail, trim_items}
use Rattle.hyper_trim.specs.inside.Alive.{trim_block, narrow_block, IsClosed}
use Rattle.hyper_trim.proofs.Members.{in_left, in_right, then_in, first_of, second_of, in_itself, it_matters}
use Rattle.hyper_trim.proofs.Members.{less_in, matters_in}
use Rattle.hyper_trim.proofs.Keeps.{Agree, agree_less, agree_itself, value_alike, agree_put, items_alike}

-- what outlasts a block has each register that counts
abbrev Lasts : ℕ → Lasting → Type 0
Lasts a set = (r : ℕ) → matters a r ≡ true → outlasts set r ≡ true

-- the machine that a block leaves agrees on what outlasts it
agree_lasting : (a : ℕ) (set : Lasting) (m before after : Machine) → Lasts a set → Agree a m after
    → Agree a m (keeping set before after)
agree_lasting a set m before after w g = record {
  registers = λ r e.
      ap (λ (c : Bool). cond c (after.registers r) (before.registers r)) (w r e) ∙ g.registers r e;
  memory = g.memory;
  input = g.input;
  output = g.output;
}

-- what has more has less
lasts_less : (b a : ℕ) (set : Lasting) → Within b a → Lasts a set → Lasts b set
lasts_less b a set h w r e = w r (matters_in b a r h e)

module _ (T : List ℕ) (ret : ℕ) where
  pick_exit : (w : ℕ) (e f e2 f2 : Exit) → e2 ≡ e → f2 ≡ f → pick w e2 f2 ≡ pick w e f
  pick_exit zero e f e2 f2 p q = q
  pick_exit (suc w) e f e2 f2 p q = p

  -- tests that are alive lead to the same exit
  pub exit_alike : (x : Tail) (m n : Machine) → Agree (live_tail T ret x) m n
      → exit_of x n.registers ≡ exit_of x m.registers
  exit_alike (Leave e) m n g = refl
  exit_alike (Test t one other) m n g =
      let p = live_tail T ret one in
      let q = live_tail T ret other in
      let all = bit_or (bit_or p q) (read_by t) in
      ap (λ (v : ℕ). pick v (exit_of one n.registers) (exit_of other n.registers))
      (value_alike all t m n (in_right (bit_or p q) (read_by t)) g)
      ∙ pick_exit (value_of m.registers t) _ _ _ _
      (exit_alike one m n (agree_less p all m n (first_of p q (read_by t)) g))
      (exit_alike other m n (agree_less q all m n (second_of p q (read_by t)) g))

  pick_within : (f : Exit → ℕ) (w : ℕ) (e g : Exit) (a : ℕ) → Within (f e) a → Within (f g) a
      → Within (f (pick w e g)) a
  pick_within f zero e g a p q = q
  pick_within f (suc w) e g a p q = p

  -- what an exit wants is among what its tail wants
  pub exit_within : (x : Tail) (regs : ℕ → ℕ) → Within (live_exit T ret (exit_of x regs)) (live_tail T ret x)
  exit_within (Leave e) regs = in_itself (live_exit T ret e)
  exit_within (Test t one other) regs =
      let p = live_tail T ret one in
      let q = live_tail T ret other in
      let all = bit_or (bit_or p q) (read_by t) in
      pick_within (live_exit T ret) (value_of regs t) (exit_of one regs) (exit_of other regs) all
      (then_in _ p all (exit_within one regs) (first_of p q (read_by t)))
      (then_in _ q all (exit_within other regs) (second_of p q (read_by t)))

  -- so is what outlasts a block that takes it
  exit_lasts : (x : Tail) (regs : ℕ → ℕ) → Within (lasting_exit T ret (exit_of x regs)) (lasting_tail T ret x)
  exit_lasts (Leave e) regs = in_itself (lasting_exit T ret e)
  exit_lasts (Test t one other) regs =
      let p = lasting_tail T ret one in
      let q = lasting_tail T ret other in
      let all = bit_or p q in
      pick_within (lasting_exit T ret) (value_of regs t) (exit_of one regs) (exit_of other regs) all
      (then_in _ p all (exit_lasts one regs) (in_left p q))
      (then_in _ q all (exit_lasts other regs) (in_right p q))

  cond_same : (c : Bool) (p q x y : Standing) → x ≡ p → y ≡ q → cond c x y ≡ cond c p q
  cond_same true p q x y h k = h
  cond_same false p q x y h k = k

  -- the next byte is the same
  pub agree_next : (a : ℕ) (m n : Machine) (i : List ℕ) → Agree a m n
      → Agree a (with_next m i) (with_next n i)
  agree_next a m n [] h = agree_put a a 3 _ m n (less_in a (bit 3)) h
  agree_next a m n (b ∷ rest) h =
      let g = agree_put a a 3 b m n (less_in a (bit 3)) h in
      record { registers = g.registers; memory = h.memory; input = refl; output = h.output }

  module _ (f g : Machine → Standing) (a : ℕ) (same : (m n : Machine) → Agree a m n → g n ≡ f m) where
    system_alike : (call : ℕ) (m n : Machine) → Agree a m n → n.registers 3 ≡ m.registers 3
        → system call n g ≡ system call m f
    system_alike call m n h e3 =
        cond_same (nat_eq call 1) _ _ _ _
        (same (record m { output = m.output ++ (m.registers 3 % 256) ∷ [] })
        (record n { output = n.output ++ (n.registers 3 % 256) ∷ [] })
        (record {
          registers = h.registers;
          memory = h.memory;
          input = h.input;
          output = ap₂ (λ (o : List ℕ) (v : ℕ). o ++ (v % 256) ∷ []) h.output e3;
        }))
        (cond_same (nat_eq call 2) _ _ _ _
        (same (with_next m m.input) (with_next n n.input)
        (subst (λ (i : List ℕ). Agree a (with_next m m.input) (with_next n i)) (sym h.input)
        (agree_next a m n m.input h)))
        (cond_same (nat_eq call 3) _ _ _ _ (ap₂ Ended h.output e3)
        (cond_same (nat_eq call 4) _ _ _ _ (ap Full h.output) (same m n h))))

  module _ (at : Layout) (P : List Block) (Q : List Narrowed) (returns : (l : ℕ) → Within (alive_at T l) ret)
      (f : Block → Machine → Standing) (g : Narrowed → Machine → Standing)
      (same : (l : ℕ) (m n : Machine) → Agree (alive_at T l) m n → g (narrowed_at Q l) n ≡ f (block_at P l) m)
    where
      leave_alike : (e : Exit) (set : Lasting) (before m n : Machine) → Lasts (lasting_exit T ret e) set
          → Agree (live_exit T ret e) m n
          → go_on Q g e (next_label at e n) (keeping set before (leaving at e n)) ≡ leave at P f e m
      leave_alike (exit.Jump l) set before m n w h =
          same l m (keeping set before n) (agree_lasting (alive_at T l) set m before n w h)
      leave_alike (exit.Call l back) set before m n w h =
          let m1 = with_register m 2 (at.address back) in
          let n1 = with_register n 2 (at.address back) in
          same l m1 (keeping set before n1)
          (agree_lasting (alive_at T l) set m1 before n1 w
          (agree_put (alive_at T l) (without (alive_at T l) (bit 2)) 2 (at.address back) m n
          (in_itself (without (alive_at T l) (bit 2))) h))
      leave_alike exit.Return set before m n w h =
          let all = bit_or ret (bit 2) in
          let l = at.label (m.registers 2) in
          ap (λ (v : ℕ). g (narrowed_at Q (at.label v)) (keeping set before n))
          (h.registers 2 (it_matters all 2 (in_right ret (bit 2))))
          ∙ same l m (keeping set before n)
          (agree_lasting (alive_at T l) set m before n (lasts_less (alive_at T l) ret set (returns l) w)
          (agree_less (alive_at T l) all m n
          (then_in (alive_at T l) ret all (returns l) (in_left ret (bit 2))) h))
      leave_alike (exit.System l) set before m n w h =
          let a = alive_at T l in
          let both = bit_or (bit 0) (bit 3) in
          let all = bit_or a both in
          let left = keeping set before n in
          let k = agree_lasting all set m before n w h in
          let e0 = k.registers 0 (it_matters all 0
          (then_in (bit 0) both all (in_left (bit 0) (bit 3)) (in_right a both))) in
          let e3 = k.registers 3 (it_matters all 3
          (then_in (bit 3) both all (in_right (bit 0) (bit 3)) (in_right a both))) in
          ap (λ (v : ℕ). system v left (g (narrowed_at Q l))) e0
          ∙ system_alike (f (block_at P l)) (g (narrowed_at Q l)) a (same l) (m.registers 0) m left
          (agree_less a all m left (in_left a both) k) e3

  -- a block, trimmed, with what outlasts it
  abbrev left_of : Block → Lasting → Narrowed
  left_of b set = record { block = trim_block T ret b; lasting = set }

  -- the block of a label in what is left; where none stands every register outlasts it
  record Stands (P : List Block) (l : ℕ) : Type 0 where
    pub set : Lasting
    pub is : narrowed_at (map (narrow_block T ret) P) l ≡ left_of (block_at P l) set
    pub lasts : Lasts (lasting_tail T ret (block_at P l).tail) set

  stands : (P : List Block) (l : ℕ) → Stands P l
  stands [] l = record { set = Every; is = refl; lasts = λ r e. refl }
  stands (b ∷ P) zero = record { set = Those (lasting_tail T ret b.tail); is = refl; lasts = λ r e. e }
  stands (b ∷ P) (suc l) = let h = stands P l in record { set = h.set; is = h.is; lasts = h.lasts }

  module _ (check : Bool) (at : Layout) (P : List Block) (closed : IsClosed T ret P) where
    run_alike : (k : ℕ) (b : Block) (set : Lasting) (m n : Machine) → Lasts (lasting_tail T ret b.tail) set
        → Agree (trim_items T ret b).live m n
        → run_narrowed check at (map (narrow_block T ret) P) k (left_of b set) n ≡ run check at P k b m
    run_alike zero b set m n w h = ap Running h.output
    run_alike (suc k) b set m n w h =
        let Q = map (narrow_block T ret) P in
        let g = run_narrowed check at Q k in
        let a = items_alike false b.items (live_tail T ret b.tail) m n h in
        let m1 = after_items b.items m in
        let n1 = after_items (trim_items T ret b).items n in
        let e = exit_of b.tail m1.registers in
        ap₂ (if_clean check) a.acts
        (ap (λ (x : Exit). go_on Q g x (next_label at x n1) (keeping set n (leaving at x n1)))
        (exit_alike b.tail m1 n1 a.agree)
        ∙ leave_alike at P Q closed.returns (run check at P k) g
        (λ l x y j.
        let s = stands P l in
        ap (λ (c : Narrowed). run_narrowed check at Q k c y) s.is
        ∙ run_alike k (block_at P l) s.set x y s.lasts
        (agree_less (trim_items T ret (block_at P l)).live (alive_at T l) x y (closed.blocks l) j))
        e set n m1 n1
        (lasts_less (lasting_exit T ret e) (lasting_tail T ret b.tail) set (exit_lasts b.tail m1.registers) w)
        (agree_less (live_exit T ret e) (live_tail T ret b.tail) m1 n1 (exit_within b.tail m1.registers)
        a.agree))

    -- the run of what is left is the run of the program
    pub runs_alike : (bytes input : List ℕ) (n : ℕ)
        → narrowed_run check at (map (narrow_block T ret) P) bytes input n ≡ hyper_run check at P bytes input n
    unfolding narrowed_run hyper_run
    runs_alike bytes input n =
        let Q = map (narrow_block T ret) P in
        let s = stands P 0 in
        ap (λ (c : Narrowed). run_narrowed check at Q n c (start bytes input)) s.is
        ∙ run_alike n (block_at P 0) s.set (start bytes input) (start bytes input) s.lasts
        (agree_itself (trim_items T ret (block_at P 0)).live (start bytes input))

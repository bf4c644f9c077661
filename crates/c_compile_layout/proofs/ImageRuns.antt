-- A run of the narrowed program is a run of the image.
use Rattle.std.proofs.Common.{◌≡◌, ℕ, zero, suc, ◌-◌, ◌<◌, ◌≤◌, ◌%◌, ◌^◌, Bool, true, false, cond, List, []}
use Rattle.std.proofs.Common.{◌∷◌, ◌++◌, length, Option, Some, None, slice_get, refl, sym, ap}
use Rattle.std.proofs.Common.{ap₂, subst, ◌∙◌, arith, length-set, nat_eq, replicate, length-append}
use Rattle.std.proofs.Common.{get_or-set_same, get_or-set_other}
use Rattle.std.specs.Prelude.{slice_index, slice_set, get_or, not, ◌&&◌}
use Rattle.std.specs.List.{All}
use Rattle.std.proofs.lemmas.Bool.Decides.{nat_tests}
use Rattle.std.proofs.lemmas.List.{length-replicate}
use Rattle.std.proofs.lemmas.Option.{slice_get-get_or, slice_get_within}
use Rattle.trips_isa.specs.declared.block.Block.{Block}
use Rattle.trips_isa.specs.declared.run.Stepped.{Stepped}
use Rattle.trips_isa.specs.inside.Acts.{is_clean}
use Rattle.trips_isa.specs.Machine.{State, with_input, system_call, then_system, start, memory_of}
use Rattle.trips_isa.specs.Machine.{step_of, runs}
use Rattle.block_cases.specs.inside.Plain.{plain_step, plain_runs}
use Rattle.trips_isa.specs.Stores.{data_size}
use Rattle.ir_forms.specs.declared.hyper.Exit.{Exit}
use Rattle.ir_forms.specs.inside.HyperRuns.{Machine, acts, is_system, with_register, with_next, system}
use Rattle.ir_forms.specs.inside.HyperRuns.{Standing, Running, Unclean}
use Rattle.hyper_narrow.specs.inside.NarrowedCode.{Narrowed, whole}
use Rattle.hyper_narrow.specs.inside.NarrowedRuns.{after_narrowed, exit_from, next_from, narrowed_or, narrowed_at}
use Rattle.hyper_narrow.specs.inside.NarrowedRuns.{go_on, run_narrowed, narrowed_run}
use Rattle.ir_forms.specs.inside.HyperRuns as hypers
use Rattle.c_compile_layout.specs.inside.Layouts.{laid_out}
use Rattle.ir_forms.specs.inside.HyperWords.{HasWords}
use Rattle.c_compile_layout.specs.inside.Joint.{AreMade, Same, StandsIn, DoesTheSame, DoesPlainly}
use Rattle.c_compile_layout.proofs.Runs.{resumed, first_step, machine_runs, plainly_runs, IsRun}
use Rattle.c_compile_layout.proofs.Runs as going
use Rattle.c_compile_layout.proofs.Steps.{Steps, steps, steps_plainly}

all_cons : (x : ℕ) (xs : List ℕ) → x < 256 → All (λ x. x < 256) xs → All (λ x. x < 256) (x ∷ xs)
all_cons x xs h a zero d l = h
all_cons x xs h a (suc i) d l = a i d (omega arith)

-- an item stands at each place below the length
pub there : {A : Type 0} (ts : List A) (k : ℕ) → k < length ts → slice_get ts k ≡ None → ⊥
there [] k l e = omega arith
there (t ∷ ts) zero l e = absurd (cc)
there (t ∷ ts) (suc k) l e = there ts k (omega arith) e

-- SYSTEM CALLS

-- the same register 3 in both
same_three : (s : State) (m : Machine) (k w : ℕ) → Same m k s
    → Same (with_register m 3 w) k (record s { registers = slice_set s.registers 3 w })
same_three s m k w same = record {
  count = length-set s.registers 3 w ∙ same.count;
  registers = λ r. go r (nat_eq r 3) refl;
  memory = same.memory;
  input = same.input;
  output = same.output;
  next = same.next;
}
  where
    go : (r : ℕ) (v : Bool) → nat_eq r 3 ≡ v
        → slice_index (slice_set s.registers 3 w) r ≡ cond v w (m.registers r)
    go r true e =
        let q : r ≡ 3 = grind (arith, nat_tests) in
        let l = same.count in
        ap (slice_index (slice_set s.registers 3 w)) q
        ∙ get_or-set_same s.registers 3 w 0 (omega (arith, l))
    go r false e =
        get_or-set_other s.registers 3 r w 0
        (λ q. let t : nat_eq r 3 ≡ true = grind (arith, nat_tests) in absurd (cc))
        ∙ same.registers r

words_three : (m : Machine) (w : ℕ) → HasWords m → w < 2 ^ 64 → HasWords (with_register m 3 w)
words_three m w words l = record {
  registers = λ r. go r (nat_eq r 3);
  memory = words.memory;
  input = words.input;
  size = words.size;
}
  where
    go : (r : ℕ) (v : Bool) → cond v w (m.registers r) < 2 ^ 64
    go r true = l
    go r false = words.registers r

-- the next byte of the input

same_next : (m : Machine) (s : State) (k : ℕ) (input : List ℕ) → m.input ≡ input → Same m k s
    → Same (with_next m input) k (with_input s input)
same_next m s k [] e same = same_three s m k (2 ^ 64 - 1) same
same_next m s k (b ∷ rest) e same =
    let t = same_three s m k b same in record {
      count = t.count;
      registers = t.registers;
      memory = t.memory;
      input = refl;
      output = t.output;
      next = t.next;
    }

words_next : (m : Machine) (input : List ℕ) → All (λ b. b < 256) input → HasWords m
    → HasWords (with_next m input)
words_next m [] a words = words_three m (2 ^ 64 - 1) words (omega arith)
words_next m (b ∷ rest) a words =
    let l : b < 256 = a 0 b (omega arith) in
    let t = words_three m b words (omega (arith, l)) in record {
      registers = t.registers;
      memory = t.memory;
      input = λ i d l. a (suc i) d (omega arith);
      size = t.size;
    }

-- what follows, where it does the same from states that are the same
abbrev Follows : going.Steps → ℕ → ℕ → (Machine → Standing) → Type 0
Follows go l n next =
    (m : Machine) (s : State) → HasWords m → Same m l s → StandsIn (next m) (go s n)

choose : (b : Bool) (p q : Standing) (x y : State × Stepped) (go : going.Steps) (n : ℕ)
    → (b ≡ true → StandsIn p (resumed go n x)) → (b ≡ false → StandsIn q (resumed go n y))
    → StandsIn (cond b p q) (resumed go n (cond b x y))
choose true p q x y go n f g = f refl
choose false p q x y go n f g = g refl

system_same : (go : going.Steps) (l n call : ℕ) (m : Machine) (s : State) (next : Machine → Standing)
    → HasWords m → Same m l s → Follows go l n next
    → StandsIn (system call m next) (resumed go n (system_call call s))
system_same go l n call m s next words same follows =
    choose (nat_eq call 1) _ _ _ _ go n (λ e. follows put put_state (record {
      registers = words.registers;
      memory = words.memory;
      input = words.input;
      size = words.size;
    }) (record {
      count = same.count;
      registers = same.registers;
      memory = same.memory;
      input = same.input;
      output = ap₂ (λ (x : List ℕ) (y : ℕ). x ++ (y % 256) ∷ []) same.output (same.registers 3);
      next = same.next;
    })) (λ e.
    choose (nat_eq call 2) _ _ _ _ go n (λ e.
    subst (λ i. StandsIn (next (with_next m m.input)) (go (with_input s i) n)) (sym same.input)
    (follows (with_next m m.input) (with_input s m.input) (words_next m m.input words.input words)
    (same_next m s l m.input refl same))) (λ e.
    choose (nat_eq call 3) _ _ _ _ go n (λ e. (refl, same.output, same.registers 3)) (λ e.
    choose (nat_eq call 4) _ _ _ _ go n (λ e. (refl, same.output)) (λ e. follows m s words same))))
  where
    put : Machine
    put = record m { output = m.output ++ (m.registers 3 % 256) ∷ [] }

    put_state : State
    put_state = record s { output = s.output ++ (slice_index s.registers 3 % 256) ∷ [] }

-- RUNS

if_clean_same : (v : Bool) (p : Standing) (r : State × Stepped) → (v ≡ false → StandsIn p r)
    → StandsIn (cond v Unclean p) r
if_clean_same true p r h = tt
if_clean_same false p r h = h refl

-- where the check lets a block go on, the step is the one that looks at no mark
abbrev Takes : List Narrowed → List Block → Bool → going.Step → Type 0
Takes B ts check step =
    (k : ℕ) (b : Narrowed) (t : Block) (m : Machine) (s : State) → slice_get B k ≡ Some b
    → slice_get ts k ≡ Some t → HasWords m → Same m k s
    → (check && not (is_clean (acts b.block.items m))) ≡ false → step s ≡ plain_step ts s

module _ (B : List Narrowed) (ts : List Block) (made : AreMade B ts) (check : Bool)
    (go : going.Steps) (step : going.Step) (run_by : IsRun go step) (takes : Takes B ts check step)
  where
    -- from states that are the same before a block, n blocks do the same
    abbrev Does : ℕ → Type 0
    Does n = (k : ℕ) (b : Narrowed) (m : Machine) (s : State) → slice_get B k ≡ Some b
        → HasWords m → Same m k s → StandsIn (run_narrowed check (laid_out ts) B n b m) (go s n)

    -- the same, of the block of a label
    at_label : (n l : ℕ) (d : Narrowed) → Does n → l < length ts → (m : Machine) (s : State) → HasWords m
        → Same m l s → StandsIn (run_narrowed check (laid_out ts) B n (narrowed_at B l) m) (go s n)
    at_label n l d ih low m s words same =
        let size = made.size in
        let found : slice_get B l ≡ Some (get_or B l d) = slice_get-get_or B l d (omega (arith, size, low)) in
        subst (λ b. StandsIn (run_narrowed check (laid_out ts) B n b m) (go s n)) (sym (ap narrowed_or found))
        (ih l (get_or B l d) m s found words same)

    -- what follows the exit
    left : (n : ℕ) (b : Narrowed) → Does n → (after : State) (e : Exit) (l : ℕ) (m : Machine)
        → HasWords m → Same m l after → l < length ts
        → StandsIn (go_on B (run_narrowed check (laid_out ts) B n) e l m)
        (resumed go n (then_system (is_system e) after))
    left n b ih after e l m words same low = by (is_system e)
      where
        by : (v : Bool)
            → StandsIn (cond v (system (m.registers 0) m (run_narrowed check (laid_out ts) B n (narrowed_at B l)))
            (run_narrowed check (laid_out ts) B n (narrowed_at B l) m)) (resumed go n (then_system v after))
        by false = at_label n l b ih low m after words same
        by true =
            subst (λ c. StandsIn (system (m.registers 0) m
            (run_narrowed check (laid_out ts) B n (narrowed_at B l)))
            (resumed go n (system_call c after))) (sym (same.registers 0))
            (system_same go l n (m.registers 0) m after _ words same
            (λ x y w z. at_label n l b ih low x y w z))

    turn : (n : ℕ) → Does n → Does (suc n)
    turn n ih k b m s is words same = by (slice_get ts k) refl
      where
        by : (o : Option Block) → slice_get ts k ≡ o
            → StandsIn (run_narrowed check (laid_out ts) B (suc n) b m) (go s (suc n))
        by None q =
            let size = made.size in
            let low = slice_get_within B k b is in
            absurd (there ts k (omega (arith, size, low)) q)
        by (Some t) q =
            let one : Steps ts b m s = steps B ts made k b t is q m words s same in
            let it = made.each k b t is q in
            if_clean_same (check && not (is_clean (acts b.block.items m))) _ (go s (suc n)) (λ clean.
            subst (λ r. StandsIn (go_on B (run_narrowed check (laid_out ts) B n) (exit_from b.block m)
            (next_from (laid_out ts) b.block m) (after_narrowed (laid_out ts) b m)) r)
            (sym (first_step go step run_by s n
            ∙ ap (resumed go n) (takes k b t m s is q words same clean ∙ one.step)))
            (left n b ih one.after (exit_from b.block m) (next_from (laid_out ts) b.block m)
            (after_narrowed (laid_out ts) b m) (it.keeps m words) one.same one.within))

    does : (n : ℕ) → Does n
    does zero = λ k b m s is words same.
        subst (λ r. StandsIn (Running m.output) r) (sym (run_by.none s)) (refl, same.output)
    does (suc n) = turn n (does n)

-- THE START

all_append : (a b : List ℕ) → All (λ x. x < 256) a → All (λ x. x < 256) b → All (λ x. x < 256) (a ++ b)
all_append [] b f g = g
all_append (x ∷ a) b f g = all_cons x (a ++ b) (f 0 x (omega arith))
    (all_append a b (λ i d l. f (suc i) d (omega arith)) g)

all_zeros : (n : ℕ) → All (λ x. x < 256) (replicate n 0)
all_zeros zero = λ i d l. absurd (omega arith)
all_zeros (suc n) = all_cons 0 (replicate n 0) (omega arith) (all_zeros n)

memory_bytes : (bytes : List ℕ) → All (λ x. x < 256) bytes → All (λ x. x < 256) (memory_of bytes)
unfolding memory_of
memory_bytes bytes a = all_append bytes (replicate (data_size - length bytes) 0) a
    (all_zeros (data_size - length bytes))

memory_size : (bytes : List ℕ) → length bytes ≤ data_size → length (memory_of bytes) ≡ data_size
unfolding memory_of
memory_size bytes l =
    let a = length-append bytes (replicate (data_size - length bytes) 0) in
    let z = length-replicate {A = ℕ} (data_size - length bytes) 0 in
    omega (arith, a, z, l)

start_same : (bytes input : List ℕ) → Same (hypers.start bytes input) 0 (start bytes input)
start_same bytes input = record {
  count = length-replicate {A = ℕ} 128 0;
  registers = λ r. zeros 128 r;
  memory = refl;
  input = refl;
  output = refl;
  next = refl;
}
  where
    zeros : (n r : ℕ) → slice_index (replicate n 0) r ≡ 0
    zeros zero r = refl
    zeros (suc n) zero = refl
    zeros (suc n) (suc r) = zeros n r

start_words : (bytes input : List ℕ) → All (λ x. x < 256) bytes → All (λ x. x < 256) input
    → length bytes ≤ data_size → HasWords (hypers.start bytes input)
start_words bytes input a b l = record {
  registers = λ r. omega arith;
  memory = memory_bytes bytes a;
  input = b;
  size = memory_size bytes l;
}

-- from the start
begun : (B : List Narrowed) (ts : List Block) (made : AreMade B ts) (check : Bool)
    (go : going.Steps) (step : going.Step) → IsRun go step → Takes B ts check step
    → (bytes input : List ℕ) (n : ℕ) → All (λ b. b < 256) bytes → All (λ b. b < 256) input
    → length bytes ≤ data_size
    → StandsIn (narrowed_run check (laid_out ts) B bytes input n) (go (start bytes input) n)
unfolding narrowed_run
begun B ts made check go step run_by takes bytes input n a b l =
    at_label B ts made check go step run_by takes n 0 (whole (hypers.jump 0))
    (does B ts made check go step run_by takes n) made.some (hypers.start bytes input)
    (start bytes input) (start_words bytes input a b l) (start_same bytes input)

-- blocks of a narrowed program, checked or not, are as many blocks of the image whose marks nothing looks at
pub does_plainly : (B : List Narrowed) (ts : List Block) → AreMade B ts → DoesPlainly B ts
does_plainly B ts made check bytes input n a b l =
    begun B ts made check (plain_runs ts) (plain_step ts) (plainly_runs ts)
    (λ k b t m s x y w same clean. refl) bytes input n a b l

was_clean : (c : Bool) → (true && not c) ≡ false → c ≡ true
was_clean true e = refl
was_clean false e = absurd (cc)

-- blocks of a narrowed program, checked for faults, are as many blocks of the image
pub does_the_same : (B : List Narrowed) (ts : List Block) → AreMade B ts → DoesTheSame B ts
does_the_same B ts made bytes input n a b l =
    begun B ts made true (runs ts) (step_of ts) (machine_runs ts)
    (λ k b t m s x y w same clean. steps_plainly B ts made k b t x y m w s same
    (was_clean (is_clean (acts b.block.items m)) clean))
    bytes input n a b l

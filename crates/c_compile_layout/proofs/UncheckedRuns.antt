-- A run without a check is never unclean, so that it comes to what the image's run comes to.
use Rattle.std.proofs.Common.{◌≡◌, ℕ, zero, suc, ◌+◌, ◌-◌, ◌≤◌, ◌%◌, Bool, true, false, cond, List, []}
use Rattle.std.proofs.Common.{◌∷◌, ◌++◌, length, replicate, refl, sym, subst, ap, ap₂, ◌∙◌, arith}
use Rattle.std.proofs.Common.{nat_eq, ◌<◌}
use Rattle.std.proofs.Common.{append_assoc, length-append}
use Rattle.std.proofs.lemmas.List.Elements.{All-cons}
use Rattle.std.proofs.lemmas.List.{length-replicate, replicate-append-replicate}
use Rattle.trips_isa.specs.declared.block.Block.{Block}
use Rattle.trips_isa.specs.declared.run.Stepped.{Stepped}
use Rattle.trips_isa.specs.Images.{last_byte}
use Rattle.trips_isa.specs.Machine.{State, memory_of, start, runs}
use Rattle.block_cases.specs.inside.Plain.{plain_runs}
use Rattle.trips_isa.specs.Stores.{data_size}
use Rattle.ir_forms.specs.inside.HyperRuns.{Machine, Layout, Standing, Running, Ended, Full, Unclean, IsUnclean}
use Rattle.ir_forms.specs.inside.HyperRuns.{is_system, with_next, system}
use Rattle.hyper_narrow.specs.inside.NarrowedCode.{Narrowed}
use Rattle.hyper_narrow.specs.inside.NarrowedRuns.{after_narrowed, exit_from, next_from, narrowed_at}
use Rattle.hyper_narrow.specs.inside.NarrowedRuns.{run_narrowed, narrowed_run}
use Rattle.ir_forms.specs.inside.HyperRuns as hypers
use Rattle.c_compile_layout.specs.inside.Layouts.{laid_out}
use Rattle.ir_forms.specs.inside.HyperWords.{AreBytes}
use Rattle.ir_forms.specs.inside.Laws.{StandsAs}
use Rattle.c_compile_layout.specs.inside.Joint.{AreMade, StandsIn}
use Rattle.c_compile_layout.specs.inside.Standings.{standing_by, standing_of, kept_before, trimmed}
use Rattle.c_compile_layout.specs.inside.Standings.{MeansTheSame, MeansPlainly}
use Rattle.c_compile_layout.proofs.ImageRuns.{does_plainly, does_the_same}

c-cond : (b : Bool) (p q : Standing) → (IsUnclean p → ⊥) → (IsUnclean q → ⊥)
    → IsUnclean (cond b p q) → ⊥
c-cond true p q f g = f
c-cond false p q f g = g

c-system : (call : ℕ) (m : Machine) (f : Machine → Standing) → ((m : Machine) → IsUnclean (f m) → ⊥)
    → IsUnclean (system call m f) → ⊥
c-system call m f h =
    c-cond (nat_eq call 1) _ _ (h (record m { output = m.output ++ (m.registers 3 % 256) ∷ [] }))
    (c-cond (nat_eq call 2) _ _ (h (with_next m m.input))
    (c-cond (nat_eq call 3) _ _ (λ x. x) (c-cond (nat_eq call 4) _ _ (λ x. x) (h m))))

-- a run without a check is clean
c-run : (at : Layout) (B : List Narrowed) (n : ℕ) (b : Narrowed) (m : Machine)
    → IsUnclean (run_narrowed false at B n b m) → ⊥
c-run at B zero b m = λ x. x
c-run at B (suc n) b m =
    let left = after_narrowed at b m in
    let next = narrowed_at B (next_from at b.block m) in
    c-cond (is_system (exit_from b.block m)) (system (left.registers 0) left (run_narrowed false at B n next))
    (run_narrowed false at B n next left)
    (c-system (left.registers 0) left (run_narrowed false at B n next) (λ x. c-run at B n next x))
    (c-run at B n next left)

stands_is : (p : Standing) (r : State × Stepped) → (IsUnclean p → ⊥) → StandsIn p r
    → p ≡ standing_of r
stands_is (Running out) r c h =
    ap Running (sym h.1) ∙ sym (ap (standing_by r.0) h.0)
stands_is (Ended out w) r c h =
    ap₂ Ended (sym h.1) (sym h.2) ∙ sym (ap (standing_by r.0) h.0)
stands_is (Full out) r c h =
    ap Full (sym h.1) ∙ sym (ap (standing_by r.0) h.0)
stands_is Unclean r c h = absurd (c tt)

-- where nothing faulted, the image's run stands as the narrowed program's does
stands_as : (p : Standing) (r : State × Stepped) → StandsIn p r → StandsAs p (standing_of r)
stands_as (Running out) r h = sym (stands_is (Running out) r (λ x. x) h)
stands_as (Ended out w) r h = sym (stands_is (Ended out w) r (λ x. x) h)
stands_as (Full out) r h = sym (stands_is (Full out) r (λ x. x) h)
stands_as Unclean r h = tt

-- BYTES

-- trimmed bytes and zeros are the bytes
pub record Trims (xs ys : List ℕ) : Type 0 where
  pub zeros : ℕ
  pub is : xs ++ replicate zeros 0 ≡ ys

one_trims : (b : ℕ) (xs ys : List ℕ) → Trims xs ys → Trims (kept_before b xs) (b ∷ ys)
one_trims zero [] ys t = record { zeros = suc t.zeros; is = ap (λ x. 0 ∷ x) t.is }
one_trims (suc b) [] ys t = record { zeros = t.zeros; is = ap (λ x. suc b ∷ x) t.is }
one_trims zero (c ∷ cs) ys t = record { zeros = t.zeros; is = ap (λ x. zero ∷ x) t.is }
one_trims (suc b) (c ∷ cs) ys t = record { zeros = t.zeros; is = ap (λ x. suc b ∷ x) t.is }

pub trims : (bytes : List ℕ) → Trims (trimmed bytes) bytes
trims [] = record { zeros = 0; is = refl }
trims (b ∷ bs) = one_trims b (trimmed bs) bs (trims bs)

trims_length : (xs ys : List ℕ) (t : Trims xs ys) → length xs + t.zeros ≡ length ys
trims_length xs ys t =
    let a = length-append xs (replicate t.zeros 0) in
    let z = length-replicate {A = ℕ} t.zeros 0 in
    let e = ap length t.is in
    omega (arith, a, z, e)

zeros_join : (xs ys : List ℕ) (zeros rest all : ℕ) → all ≡ zeros + rest
    → xs ++ replicate zeros 0 ≡ ys → xs ++ replicate all 0 ≡ ys ++ replicate rest 0
zeros_join xs ys zeros rest all e is =
    ap (λ k. xs ++ replicate k 0) e
    ∙ ap (λ x. xs ++ x) (sym (replicate-append-replicate zeros rest 0))
    ∙ sym (append_assoc xs (replicate zeros 0) (replicate rest 0))
    ∙ ap (λ x. x ++ replicate rest 0) is

same_memory : (xs ys : List ℕ) → Trims xs ys → length ys ≤ data_size → memory_of xs ≡ memory_of ys
unfolding memory_of
same_memory xs ys t l =
    let n = trims_length xs ys t in
    zeros_join xs ys t.zeros (data_size - length ys) (data_size - length xs) (omega (arith, n, l)) t.is

pub trimmed_memory : (bytes : List ℕ) → length bytes ≤ data_size
    → memory_of (trimmed bytes) ≡ memory_of bytes
trimmed_memory bytes l = same_memory (trimmed bytes) bytes (trims bytes) l

last_kept : (b : ℕ) (xs : List ℕ) → (last_byte xs ≡ 0 → ⊥) → last_byte (kept_before b xs) ≡ 0 → ⊥
last_kept zero [] f e = f e
last_kept (suc b) [] f e = omega (arith, e)
last_kept zero (c ∷ cs) f e = f e
last_kept (suc b) (c ∷ cs) f e = f e

-- trimmed bytes do not end in a zero
pub trimmed_last : (bytes : List ℕ) → last_byte (trimmed bytes) ≡ 0 → ⊥
trimmed_last [] e = omega (arith, e)
trimmed_last (b ∷ bs) e = last_kept b (trimmed bs) (trimmed_last bs) e

-- trimmed bytes are no more than before
pub trimmed_length : (bytes : List ℕ) → length (trimmed bytes) ≤ length bytes
trimmed_length bytes =
    let n = trims_length (trimmed bytes) bytes (trims bytes) in omega (arith, n)

kept_bytes : (b : ℕ) (xs : List ℕ) → b < 256 → AreBytes xs → AreBytes (kept_before b xs)
kept_bytes zero [] l a = a
kept_bytes (suc b) [] l a = All-cons (λ b. b < 256) (suc b) [] l a
kept_bytes zero (c ∷ cs) l a = All-cons (λ b. b < 256) zero (c ∷ cs) l a
kept_bytes (suc b) (c ∷ cs) l a = All-cons (λ b. b < 256) (suc b) (c ∷ cs) l a

-- trimmed bytes are bytes
pub trimmed_bytes : (bytes : List ℕ) → AreBytes bytes → AreBytes (trimmed bytes)
trimmed_bytes [] a = a
trimmed_bytes (b ∷ bs) a =
    kept_bytes b (trimmed bs) (a 0 b (omega arith))
    (trimmed_bytes bs (λ i d l. a (suc i) d (omega arith)))

-- WHOLE

clean : (at : Layout) (B : List Narrowed) (bytes input : List ℕ) (n : ℕ)
    → IsUnclean (narrowed_run false at B bytes input n) → ⊥
unfolding narrowed_run
clean at B bytes input n = c-run at B n (narrowed_at B 0) (hypers.start bytes input)

-- whatever faults, blocks of the narrowed program come to what as many blocks of the image do, whose marks nothing
-- looks at
pub means_plainly : (B : List Narrowed) (ts : List Block) → AreMade B ts → MeansPlainly B ts
means_plainly B ts made bytes input n a b l =
    stands_is (narrowed_run false (laid_out ts) B bytes input n) (plain_runs ts (start bytes input) n)
    (clean (laid_out ts) B bytes input n) (does_plainly B ts made false bytes input n a b l)
    ∙ ap (λ mem. standing_of (plain_runs ts (record (start bytes input) { memory = mem }) n))
    (sym (trimmed_memory bytes l))

-- blocks of the image, with trimmed data, come to what as many blocks of the narrowed program do, where none of
-- these faults
pub means_the_same : (B : List Narrowed) (ts : List Block) → AreMade B ts → MeansTheSame B ts
means_the_same B ts made bytes input n a b l =
    subst (λ mem. StandsAs (narrowed_run true (laid_out ts) B bytes input n)
    (standing_of (runs ts (record (start bytes input) { memory = mem }) n)))
    (sym (trimmed_memory bytes l))
    (stands_as (narrowed_run true (laid_out ts) B bytes input n) (runs ts (start bytes input) n)
    (does_the_same B ts made bytes input n a b l))

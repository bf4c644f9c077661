-- What stands of the parts of a verifier.
use Rattle.std.proofs.Common.{◌≡◌, ℕ, zero, suc, ◌%◌, ◌+◌, ◌<◌, ◌≤◌, List, [], ◌∷◌, ◌++◌, length, drop, get_or}
use Rattle.std.proofs.Common.{Option, Some, None, slice_get}
use Rattle.std.proofs.Common.{refl, sym, ap, subst, ◌∙◌, arith}
use Rattle.std.specs.Prelude.{slice_index_or}
use Rattle.std.proofs.Math.Seq.{drop-cons}
use Rattle.trips_isa.specs.declared.block.Inst.{Inst}
use Rattle.trips_isa.specs.declared.block.Block.{Block}
use Rattle.trips_isa.specs.Rule.{Answer}
use Rattle.trips_isa.specs.Machine.{State}
use Rattle.block_atomic.specs.Told.{TellsSlots, tells_in, TellsNext}
use Rattle.trace_verify.specs.declared.parts.Parts.{Parts}
use Rattle.trace_verify.specs.declared.parts.Stage.{Stage}
use Rattle.trace_verify.specs.Spelling.{Listed, listed_of, listed_in, exit_taken, exit_in, listed_from, listed_by}
use Rattle.trace_verify.specs.Spelling.{tokens_in}
use Rattle.trips_isa.specs.declared.run.Stepped.{Stepped}
use Rattle.trips_isa.specs.Machine.{step_of}
use Rattle.std.proofs.Common.{Bool, true, false, cond, eqb, nat_lt}
use Rattle.std.proofs.lemmas.Bool.{cond-true, cond-false, eq-eqb, ne_eqb, ltb-true, ltb-false}
use Rattle.std.proofs.lemmas.List.{get_or_past}
use Rattle.trips_isa.specs.Forms.{form_of}
use Rattle.trace_verify.specs.Spelling.{record_bytes, slot_bytes}
use Rattle.trace_verify.specs.FirstFault.{IsShort, nothing, record_size}
use Rattle.trace_verify.specs.FirstFault as first
use Rattle.trace_verify.proofs.EntryEnds.{size_some}
use Rattle.trace_verify.specs.declared.fault.VerifyFault.TheVariants.{Truncated}
use Rattle.trace_verify.specs.Reading.{records_next}
use Rattle.trace_verify.specs.Verdicts.{verdict_at, Refused}
use Rattle.std.specs.Prelude.{is_none}
use Rattle.trips_isa.specs.declared.run.Stepped.TheVariants.{Went}
use Rattle.trace_verify.specs.inside.Verifying.{IsUsed, used, records_place, IsReady}
use Rattle.trace_verify.specs.declared.fault.VerifyFault.TheVariants.{WrongExit}
use Rattle.trace_verify.specs.Reading.{Stopped, Progress, before, stepped_to, entry_come}
use Rattle.trace_verify.specs.inside.Verifying.{slots_in, slots_of, rest_from, StandsAt, IsRunning, IsHeld}
use Rattle.trace_verify.proofs.Listing.{told_listed}

-- a byte more of a field changes the bytes of the field and their number alone
pub running_same : (p q : Parts) (n : ℕ) → q ≡ record p { at = n; seen = q.seen } → IsRunning p → IsRunning q
running_same p q n e h = record {
  next = subst (λ (r : Parts). r.arch.state.next < length r.image.blocks) (sym e) h.next;
  room = subst (λ (r : Parts). r.arch.budget ≡ r.budget) (sym e) h.room;
  made = subst (λ (r : Parts). r.count ≡ length r.arch.state.trace) (sym e) h.made;
  few = subst (λ (r : Parts). r.count ≤ r.budget) (sym e) h.few;
}

-- so what is held stands where the stage does
pub held_same : (p q : Parts) (n : ℕ) → q ≡ record p { at = n; seen = q.seen } → IsHeld p → StandsAt q p.stage
    → IsHeld q
held_same p q n e h s = record {
  runs = running_same p q n e h.runs;
  stands = subst (λ (t : Stage). StandsAt q t) (ap (λ (r : Parts). r.stage) (sym e)) s;
}

-- an entry whose exit is the one that is taken, and one whose is not
pub entry_kept : (blocks : List Block) (c : Progress) (e t : ℕ) → e ≡ t → t ≡ exit_taken blocks c.state
    → (u : State) (o : Stepped) → (u, o) ≡ step_of blocks c.state → entry_come blocks e c ≡ stepped_to c u o
entry_kept blocks c e t same is u o step =
    cond-true (eqb e (exit_taken blocks c.state))
    (stepped_to c (step_of blocks c.state).0 (step_of blocks c.state).1) (before (Stopped (WrongExit c.count)) c)
    (eq-eqb e (exit_taken blocks c.state) (same ∙ is))
    ∙ ap (λ (p : State × Stepped). stepped_to c p.0 p.1) (sym step)

-- an entry whose exit is another one
pub entry_other : (blocks : List Block) (c : Progress) (e t : ℕ) → (e ≡ t → ⊥) → t ≡ exit_taken blocks c.state
    → entry_come blocks e c ≡ before (Stopped (WrongExit c.count)) c
entry_other blocks c e t other is =
    cond-false (eqb e (exit_taken blocks c.state))
    (stepped_to c (step_of blocks c.state).0 (step_of blocks c.state).1) (before (Stopped (WrongExit c.count)) c)
    (ne_eqb e (exit_taken blocks c.state) (λ k. other (k ∙ sym is)))

drop_past : {A : Type 0} (xs : List A) (n : ℕ) → length xs ≤ n → drop n xs ≡ []
drop_past [] zero h = refl
drop_past [] (suc n) h = refl
drop_past (x ∷ xs) zero h = absurd (omega (arith, h))
drop_past (x ∷ xs) (suc n) h = drop_past xs n (omega (arith, h))

-- a block of the image is there
there : (blocks : List Block) (k : ℕ) → k < length blocks → slice_get blocks k ≡ None → ⊥
there [] k l e = absurd (omega (arith, l))
there (b ∷ bs) zero l e = absurd (let bad : Some b ≡ None = e in cc)
there (b ∷ bs) (suc k) l e = there bs k (omega (arith, l)) e

-- the exit that is told is the one that is taken
pub exit_told : (blocks : List Block) (s : State) (tokens : List Answer) (marks : List ℕ) (exit : ℕ) → s.next
    < length blocks
    → TellsNext blocks s tokens marks exit → exit ≡ exit_taken blocks s
unfolding exit_taken
exit_told blocks s tokens marks exit inside told = go (slice_get blocks s.next) refl told
  where
    go : (o : Option Block) → slice_get blocks s.next ≡ o → tells_in o s tokens marks exit → exit ≡ exit_in o s
    go None is h = absurd (there blocks s.next inside is)
    go (Some b) is h = h.left

-- the records that are told are those of the next block
pub listed_told : (p : Parts) → p.arch.state.next < length p.image.blocks
    → TellsNext p.image.blocks p.arch.state p.tokens p.marks p.taken → listed_of p.image.blocks p.arch.state
    ≡ rest_from p 0
unfolding listed_of
listed_told p inside told = go (slice_get p.image.blocks p.arch.state.next) refl told
  where
    s : State
    s = p.arch.state

    go : (o : Option Block) → slice_get p.image.blocks s.next ≡ o → tells_in o s p.tokens p.marks p.taken
        → listed_in o s ≡ listed_from (λ i. get_or p.tokens i None) (λ i. get_or p.marks i 0) 0 (drop 0 (slots_in o))
    go None is h = refl
    go (Some b) is h = sym (told_listed b s p.tokens p.marks p.taken h)

-- a used slot has a record
pub record Listing (g : ℕ → Answer) (m : ℕ → ℕ) (j : ℕ) (is : List (Option Inst)) : Type 0 where
  pub here : Listed
  pub later : List Listed
  pub listed : listed_from g m j (drop j is) ≡ here ∷ later
  pub bytes : here.bytes ≡ slot_bytes (get_or is j None) (m j) (g j)
  pub slot : here.slot ≡ j
  pub others : later ≡ listed_from g m (suc j) (drop (suc j) is)

-- a used slot is listed, and the records behind it follow
pub used_listed : (g : ℕ → Answer) (m : ℕ → ℕ) (j : ℕ) (is : List (Option Inst)) → IsUsed (get_or is j None)
    → Listing g m j is
used_listed g m j is u = by_length (nat_lt j (length is)) refl
  where
    not_used : IsUsed None → ⊥
    not_used h = elim h [ ]

    by_slot : (o : Option Inst) → get_or is j None ≡ o → IsUsed o → drop j is ≡ o ∷ drop (suc j) is → Listing g m j is
    by_slot None e h d = elim h [ ]
    by_slot (Some i) e h d = record {
      here = record { slot = j; bytes = record_bytes (form_of i.op) (m j) (g j) };
      later = listed_from g m (suc j) (drop (suc j) is);
      listed = ap (λ (xs : List (Option Inst)). listed_from g m j xs) d;
      bytes = ap (λ (o : Option Inst). slot_bytes o (m j) (g j)) (sym e);
      slot = refl;
      others = refl;
    }

    by_length : (t : Bool) → nat_lt j (length is) ≡ t → Listing g m j is
    by_length true t = by_slot (get_or is j None) refl u (drop-cons is j None (ltb-true j (length is) t))
    by_length false t = absurd (not_used (subst IsUsed (get_or_past is j None (ltb-false j (length is) t)) u))

-- an empty slot has none
pub empty_listed : (g : ℕ → Answer) (m : ℕ → ℕ) (j k : ℕ) (is : List (Option Inst)) → get_or is j None ≡ None → k
    ≡ suc j
    → listed_from g m j (drop j is) ≡ listed_from g m k (drop k is)
empty_listed g m j k is e next = by_length (nat_lt j (length is)) refl
    ∙ ap (λ (n : ℕ). listed_from g m n (drop n is)) (sym next)
  where
    by_length : (t : Bool) → nat_lt j (length is) ≡ t
        → listed_from g m j (drop j is) ≡ listed_from g m (suc j) (drop (suc j) is)
    by_length true t = ap (λ (xs : List (Option Inst)). listed_from g m j xs)
        (drop-cons is j None (ltb-true j (length is) t) ∙ ap (λ (o : Option Inst). o ∷ drop (suc j) is) e)
    by_length false t =
        let past = ltb-false j (length is) t in
        ap (λ (xs : List (Option Inst)). listed_from g m j xs) (drop_past is j past)
        ∙ sym (ap (λ (xs : List (Option Inst)). listed_from g m (suc j) xs)
        (drop_past is (suc j) (omega (arith, past))))

-- before a record, where there is one
pub next_place : (blocks : List Block) (e : ℕ) (c : Progress) (ls : List Listed) (l : Listed) (rest : List Listed)
    → ls ≡ l ∷ rest → records_next blocks e c ls ≡ before (records_place e ls) c
next_place blocks e c [] l rest is = absurd (let bad : 0 ≡ suc (length rest) = ap
    (λ (xs : List Listed). length xs) is in omega (arith, bad))
next_place blocks e c (x ∷ xs) l rest is = refl

-- behind the last slot there is no record
pub none_listed : (p : Parts) (j : ℕ) → length (slots_of p) ≤ j → rest_from p j ≡ []
none_listed p j l = ap (λ (xs : List (Option Inst)). listed_from (λ i. get_or p.tokens i None)
    (λ i. get_or p.marks i 0) j xs)
    (drop_past (slots_of p) j l)

-- a slot that is not empty is used
pub some_used : (o : Option Inst) → is_none o ≡ false → IsUsed o
some_used None e = absurd (cc)
some_used (Some i) e = used

-- the exit that comes changes nothing else
pub ready_exit : (p q : Parts) (n e : ℕ) → q ≡ record p { at = n; exit = e } → IsReady p → IsReady q
ready_exit p q n e is h = record {
  went = subst (λ (r : Parts). r.answer ≡ Went) (sym is) h.went;
  room = subst (λ (r : Parts). r.count < r.budget) (sym is) h.room;
  tells = subst (λ (r : Parts). TellsNext r.image.blocks r.arch.state r.tokens r.marks r.taken) (sym is) h.tells;
}

-- and the run stands
pub running_exit : (p q : Parts) (n e : ℕ) → q ≡ record p { at = n; exit = e } → IsRunning p → IsRunning q
running_exit p q n e is h = record {
  next = subst (λ (r : Parts). r.arch.state.next < length r.image.blocks) (sym is) h.next;
  room = subst (λ (r : Parts). r.arch.budget ≡ r.budget) (sym is) h.room;
  made = subst (λ (r : Parts). r.count ≡ length r.arch.state.trace) (sym is) h.made;
  few = subst (λ (r : Parts). r.count ≤ r.budget) (sym is) h.few;
}

-- a byte more of a record leaves the entry ready
pub ready_same : (p q : Parts) (n : ℕ) → q ≡ record p { at = n; seen = q.seen } → IsReady p → IsReady q
ready_same p q n is h = record {
  went = subst (λ (r : Parts). r.answer ≡ Went) (sym is) h.went;
  room = subst (λ (r : Parts). r.count < r.budget) (sym is) h.room;
  tells = subst (λ (r : Parts). TellsNext r.image.blocks r.arch.state r.tokens r.marks r.taken) (sym is) h.tells;
}

-- the marks that are told are causes
pub causes_told : (blocks : List Block) (s : State) (tokens : List Answer) (marks : List ℕ) (exit j : ℕ)
    → s.next < length blocks → TellsNext blocks s tokens marks exit → j < 128 → get_or marks j 0 < 4
causes_told blocks s tokens marks exit j inside told l = go (slice_get blocks s.next) refl told
  where
    go : (o : Option Block) → slice_get blocks s.next ≡ o → tells_in o s tokens marks exit → get_or marks j 0 < 4
    go None is h = absurd (there blocks s.next inside is)
    go (Some b) is h = h.causes j l

-- a record that is not whole has few bytes
pub size_few : (x n : ℕ) → record_size x ≡ Some n → n ≤ 9
size_few x n e = by (nat_lt x 16) (eqb x 0) (eqb (x % 4) 1) (eqb (x % 4) 2) e
  where
    by : (l a b c : Bool) → cond l (cond a (Some 1) (cond b (Some 1) (cond c (Some 9) None))) None ≡ Some n → n ≤ 9
    by true true b c e = let one : 1 ≡ n = cc in omega (arith, one)
    by true false true c e = let one : 1 ≡ n = cc in omega (arith, one)
    by true false false true e = let nine : 9 ≡ n = cc in omega (arith, nine)
    by true false false false e = absurd (cc)
    by false a b c e = absurd (cc)

-- so it fits in what is kept
pub short_few : (xs : List ℕ) → IsShort xs → length xs < 12
short_few [] nothing = omega arith
short_few (x ∷ xs) (first.begun n size l) = let few : n ≤ 9 = size_few x n size in omega (arith, l, few)

-- where a record is wanted the bytes end too early
pub cut_at : (c : Progress) (e : ℕ) (ls : List Listed) → verdict_at c (records_place e ls) ≡ Refused (Truncated c.at)
cut_at c e [] = refl
cut_at c e (l ∷ ls) = refl

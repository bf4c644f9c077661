-- What applying effects leaves of the sizes, the trace and the next block.
use Rattle.std.proofs.Common.{◌≡◌, ℕ, suc, ◌+◌, ◌-◌, ◌/◌, ◌%◌, ◌^◌, ◌<◌, Bool, true, false, cond, nat_lt}
use Rattle.std.proofs.Common.{◌==◌, List, [], ◌∷◌, ◌++◌, Some, None, set, get_or, length, refl, ◌∙◌, subst}
use Rattle.std.proofs.Common.{arith}
use Rattle.std.specs.Prelude.{unwrap_or}
use Rattle.std.proofs.lemmas.Bool.Decides.{nat_tests}
use Rattle.std.proofs.lemmas.List.{length-set}
use Rattle.trips_isa.specs.declared.op.Op.{Op}
use Rattle.trips_isa.specs.declared.op.Op.TheVariants.{Bro, Callo, Br, Ret, Scall}
use Rattle.trips_isa.specs.declared.block.Token.{Token}
use Rattle.trips_isa.specs.declared.block.Token.TheVariants.{Null, Word}
use Rattle.trips_isa.specs.declared.block.Block.{Block}
use Rattle.trips_isa.specs.declared.run.Traced.{Traced}
use Rattle.trips_isa.specs.declared.run.Stepped.{Stepped}
use Rattle.trips_isa.specs.declared.run.Stepped.TheVariants.{Went, Ended, StackFull}
use Rattle.trips_isa.specs.Images.{chunks, starting_from, block_at}
use Rattle.trips_isa.specs.Blocks.{Leaving}
use Rattle.trips_isa.specs.Outcomes.{Effects, to_address, to_following, next_by, next_of}
use Rattle.trips_isa.specs.Machine.{State, written, write_all, changed, with_input, system_call, then_system, apply}
use Rattle.commit_flush_spec.specs.inside.Laws.{IsWhole}
use Rattle.commit_flush_spec.proofs.Bytes.{all_size}

written_size : (regs : List ℕ) (r : ℕ) (t : Token) → length (written regs r t) ≡ length regs
written_size regs r Null = refl
written_size regs r (Word v) = length-set regs r v

write_size : (regs rs : List ℕ) (ts : List Token) → length (write_all regs rs ts) ≡ length regs
write_size regs [] ts = refl
write_size regs (r ∷ rs) [] = refl
write_size regs (r ∷ rs) (t ∷ ts) = write_size (written regs r t) rs ts ∙ written_size regs r t

-- a property of states that output, input and register 3 leave
module _ (P : State → Type 0)
    (out : (s : State) (o : List ℕ) → P s → P (record s { output = o }))
    (inp : (s : State) (v : ℕ) (i : List ℕ) → P s → P (record s { registers = set s.registers 3 v; rest = i })) where
  input_keeps : (s : State) (i : List ℕ) → P s → P (with_input s i)
  input_keeps s [] h = inp s (2 ^ 64 - 1) s.rest h
  input_keeps s (b ∷ i) h = inp s b i h

  call_keeps : (c : ℕ) (s : State) → P s → P (system_call c s).0
  call_keeps c s h = go (c == 1) (c == 2) (c == 3) (c == 4)
    where
      go : (one two three four : Bool) → P (cond {A = State
          × Stepped} one (record s { output = s.output ++ (get_or s.registers 3 0 % 256) ∷ [] }, Went)
          (cond two (with_input s s.rest, Went) (cond three (s, Ended) (cond four (s, StackFull) (s, Went))))).0
      go true two three four = out s _ h
      go false true three four = input_keeps s s.rest h
      go false false true four = h
      go false false false true = h
      go false false false false = h

  system_keeps : (b : Bool) (s : State) → P s → P (then_system b s).0
  system_keeps true s h = call_keeps (get_or s.registers 0 0) s h
  system_keeps false s h = h

-- effects that are applied leave all registers and the whole of data memory
pub apply_whole : (ws : List ℕ) (o : Effects) (s : State) → IsWhole s → IsWhole (apply ws o s).0
apply_whole ws o s h = system_keeps IsWhole
    (λ t x k. record { registers = k.registers; memory = k.memory })
    (λ t v i k. record { registers = length-set t.registers 3 v ∙ k.registers; memory = k.memory })
    o.system (changed ws o s)
    (record {
      registers = write_size s.registers ws o.writes ∙ h.registers;
      memory = all_size s.memory o.stores
          ∙ h.memory;
    })

length_more : (xs : List Traced) (x : Traced) → length (xs ++ x ∷ []) ≡ length xs + 1
length_more [] x = refl
length_more (y ∷ xs) x = let e = length_more xs x in omega (arith, e)

-- effects that are applied make the trace longer by one
pub apply_trace : (ws : List ℕ) (o : Effects) (s : State) → length (apply ws o s).0.trace ≡ length s.trace + 1
apply_trace ws o s =
    system_keeps (λ t. length t.trace ≡ length s.trace + 1) (λ t x k. k) (λ t v i k. k) o.system (changed ws o s)
    (length_more s.trace _)

-- the successor of the effects is the next block
pub apply_next : (ws : List ℕ) (o : Effects) (s : State) → (apply ws o s).0.next ≡ o.successor
apply_next ws o s = system_keeps (λ t. t.next ≡ o.successor) (λ t x k. k) (λ t v i k. k) o.system
    (changed ws o s) refl

-- the next block is one of the image -------------------------------------------------------------

start_in : (bs : List Block) (k here chunk d : ℕ) → d < k + length bs
    → unwrap_or (starting_from bs k here chunk) d < k + length bs
start_in [] k here chunk d l = l
start_in (b ∷ bs) k here chunk d l = go (here == chunk) (let e : suc k + length bs ≡ k + suc (length bs) =
    omega arith in subst (λ n. unwrap_or (starting_from bs (suc k) (here + chunks b) chunk) d < n) e
    (start_in bs (suc k) (here + chunks b) chunk d (omega arith)))
  where
    go : (c : Bool) → unwrap_or (starting_from bs (suc k) (here + chunks b) chunk) d < k + suc (length bs)
        → unwrap_or (cond c (Some k) (starting_from bs (suc k) (here + chunks b) chunk)) d < k + suc (length bs)
    go true h = omega arith
    go false h = h

block_in : (blocks : List Block) → 0 < length blocks → (chunk : ℕ) → block_at blocks chunk < length blocks
block_in blocks l chunk = let e : 0 + length blocks ≡ length blocks = omega arith in
    subst (λ n. block_at blocks chunk < n) e (start_in blocks 0 0 chunk 0 (omega arith))

address_in : (blocks : List Block) → 0 < length blocks → (t : Token) → to_address blocks t < length blocks
address_in blocks l Null = l
address_in blocks l (Word a) = go (a % 128 == 0)
  where
    go : (c : Bool) → cond c (block_at blocks (a / 128)) 0 < length blocks
    go true = block_in blocks l (a / 128)
    go false = l

following_in : (blocks : List Block) → 0 < length blocks → (k : ℕ) → to_following blocks k < length blocks
following_in blocks l k = go (nat_lt (k + 1) (length blocks)) refl
  where
    go : (c : Bool) → nat_lt (k + 1) (length blocks) ≡ c → cond c (k + 1) 0 < length blocks
    go true e = grind (arith, nat_tests)
    go false e = l

-- the next block of an exit is one of the image
pub next_in : (blocks : List Block) → 0 < length blocks → (k : ℕ) (e : Leaving) → next_of blocks k e < length blocks
next_in blocks l k None = l
next_in blocks l k (Some p) = by (p.0).op
  where
    by : (op : Op) → next_by op blocks k p.0 p.1 < length blocks
    by Bro = block_in blocks l _
    by Callo = block_in blocks l _
    by Br = address_in blocks l p.1
    by Ret = address_in blocks l p.1
    by Scall = following_in blocks l k
    by _ = l

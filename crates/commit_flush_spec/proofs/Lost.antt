-- No token is lost: what an instruction has sent stands in its place, its spot, its number or the exit.
use Rattle.std.proofs.Common.{◌≡◌, ◌≢◌, ℕ, zero, suc, ◌%◌, ◌<◌, Bool, true, false, ◌&&◌, ◌||◌, ◌==◌, ◌⊎◌, inl}
use Rattle.std.proofs.Common.{inr, List, [], ◌∷◌, Option, Some, None, slice_get, set, get_or, take, length}
use Rattle.std.proofs.Common.{refl, sym, ap, ap₂, ◌∙◌, subst, true≢false, arith}
use Rattle.std.proofs.lemmas.Bool.Decides.{nat_tests}
use Rattle.std.proofs.lemmas.List.{length-set}
use Rattle.trips_isa.specs.declared.block.Token.{Token}
use Rattle.trips_isa.specs.declared.block.Inst.{Inst}
use Rattle.trips_isa.specs.declared.block.Block.{Block}
use Rattle.trips_isa.specs.declared.node.Node.{Node}
use Rattle.trips_isa.specs.Forms.{form_of, is_load, is_store}
use Rattle.trips_isa.specs.Rule.{Answer}
use Rattle.trips_isa.specs.Places.{nodes_of, inst_node, first_place}
use Rattle.block_cases.specs.CaseRule.{no}
use Rattle.trips_isa.specs.Places.{in_mask}
use Rattle.block_cases.specs.Orders.{slot_of, bad_slot_number, has_load}
use Rattle.block_cases.specs.inside.Good.{NamesPlace}
use Rattle.commit_flush_spec.specs.Frames.{Frame, at, slot_node, source, target, named_at, is_target}
use Rattle.commit_flush_spec.specs.Sending.{put_if}
use Rattle.commit_flush_spec.specs.Sending.{sent, token_with}
use Rattle.commit_flush_spec.specs.Older.{Older}
use Rattle.commit_flush_spec.specs.inside.Invariant.{FrameOk, IsRunnable, AllGood}
use Rattle.commit_flush_spec.proofs.Lists.{other_at, set_here}
use Rattle.commit_flush_spec.proofs.Look.{or_false}
use Rattle.commit_flush_spec.proofs.Tokens.{inst_in, slot_got, producer, there}
use Rattle.commit_flush_spec.proofs.Frames.{own, seen, own_solves, own_holds}
use Rattle.commit_flush_spec.proofs.Delivers.{or_here}
use Rattle.commit_flush_spec.proofs.Stored.{no_false}

-- places -----------------------------------------------------------------------------------------

stands : (xs : List Answer) (p q : ℕ) (t : Token) → q ≡ p → at xs q ≢ None → at (set xs p (Some t)) q ≢ None
stands [] p q t e n = n
stands (x ∷ xs) zero zero t e n = λ z. cc
stands (x ∷ xs) zero (suc q) t e n = absurd (omega arith)
stands (x ∷ xs) (suc p) zero t e n = absurd (omega arith)
stands (x ∷ xs) (suc p) (suc q) t e n = stands xs p q t (omega arith) n

-- to put a token somewhere takes none from a place
pub put_there : (b : Bool) (xs : List Answer) (p : ℕ) (t : Token) (q : ℕ) → at xs q ≢ None
    → at (put_if b xs p t) q ≢ None
put_there true xs p t q n = go (q == p) refl
  where
    go : (b : Bool) → (q == p) ≡ b → at (set xs p (Some t)) q ≢ None
    go true e = let same : q ≡ p = grind (arith, nat_tests) in λ z. stands xs p q t same n z
    go false e = let other : q ≢ p = λ z. let bad : (q == p) ≡ true = grind (arith, z) in absurd (cc) in
        λ z. n (sym (other_at xs p q (Some t) other) ∙ z)
put_there false xs p t q n = n

-- to send a node's token takes none from a place
pub sent_there : (o : Option Node) (xs : List Answer) (p : ℕ) (t : Token) (q : ℕ) → at xs q ≢ None
    → at (sent o xs p t) q ≢ None
sent_there None xs p t q n = n
sent_there (Some k) xs p t q n = put_there (is_target k.second) _ (suc p) t q
    (put_there (is_target k.first) xs p t q n)

put_here : (b : Bool) (xs : List Answer) (p : ℕ) (t : Token) → b ≡ true → p < length xs
    → at (put_if b xs p t) p ≢ None
put_here true xs p t e l = λ z. let bad : Some t ≡ None = sym (set_here xs p (Some t) l) ∙ z in cc
put_here false xs p t e l = absurd (cc)

put_long : (b : Bool) (xs : List Answer) (p : ℕ) (t : Token) → length (put_if b xs p t) ≡ length xs
put_long true xs p t = length-set xs p (Some t)
put_long false xs p t = refl

-- the first and the second place of a node
sent_first : (o : Option Node) (xs : List Answer) (p : ℕ) (t : Token) → is_target (named_at o true) ≡ true
    → p < length xs → at (sent o xs p t) p ≢ None
sent_first None xs p t e l = absurd (cc)
sent_first (Some n) xs p t e l = put_there (is_target n.second) _ (suc p) t p
    (put_here (is_target n.first) xs p t e l)

sent_second : (o : Option Node) (xs : List Answer) (p : ℕ) (t : Token) → is_target (named_at o false) ≡ true
    → suc p < length xs → at (sent o xs p t) (suc p) ≢ None
sent_second None xs p t e l = absurd (cc)
sent_second (Some n) xs p t e l =
    put_here (is_target n.second) (put_if (is_target n.first) xs p t) (suc p) t e (let k =
    put_long (is_target n.first) xs p t in omega (arith, k, l))

-- a sent token stands in each place of a target
pub sent_stands : (b : Block) (xs : List Answer) (x p : ℕ) (t : Token) (q : ℕ) → p % 2 ≡ 0 → suc p < length xs
    → (q ≡ p) ⊎ (q ≡ suc p) → source b q ≡ x → is_target (target b q) ≡ true
    → at (sent (slice_get (nodes_of b) x) xs p t) q ≢ None
sent_stands b xs x p t q even l (inl e) s g =
    let par : (q % 2 == 0) ≡ true = (let k : q % 2 ≡ 0 = ap (λ n. n % 2) e ∙ even in grind (arith, nat_tests)) in
    let named : is_target (named_at (slice_get (nodes_of b) x) true) ≡ true =
    sym (ap₂ (λ y c. is_target (named_at (slice_get (nodes_of b) y) c)) s par) ∙ g in
    subst (λ k. at (sent (slice_get (nodes_of b) x) xs p t) k ≢ None) (sym e)
    (sent_first (slice_get (nodes_of b) x) xs p t named (omega arith))
sent_stands b xs x p t q even l (inr e) s g =
    let par : (q % 2 == 0) ≡ false = (let k : q % 2 ≡ 1 = omega arith in grind (arith, nat_tests)) in
    let named : is_target (named_at (slice_get (nodes_of b) x) false) ≡ true =
    sym (ap₂ (λ y c. is_target (named_at (slice_get (nodes_of b) y) c)) s par) ∙ g in
    subst (λ k. at (sent (slice_get (nodes_of b) x) xs p t) k ≢ None) (sym e)
    (sent_second (slice_get (nodes_of b) x) xs p t named l)

-- numbers ----------------------------------------------------------------------------------------

-- a load and a store have different numbers
pub load_not_store : (b : Block) → IsRunnable b → (s t : ℕ) (i j : Inst) → slot_of b s ≡ Some i
    → slot_of b t ≡ Some j → is_load (form_of i.op) ≡ true → is_store (form_of j.op) ≡ true → i.number ≢ j.number
load_not_store b good s t i j e d h k same =
    let all : length b.insts.items ≡ 128 = good.fits.insts in
    let ls : s < length b.insts.items = inst_in b.insts.items s i e in
    let lt : t < length b.insts.items = inst_in b.insts.items t j d in
    let bad : bad_slot_number b s (Some i) ≡ false = sym (ap (bad_slot_number b s) e)
    ∙ good.good.in_order.numbers s (omega arith) in
    let bad' : bad_slot_number b t (Some j) ≡ false = sym (ap (bad_slot_number b t) d)
    ∙ good.good.in_order.numbers t (omega arith) in
    let off : (in_mask b.mask i.number || has_load (take s b.insts.items) i.number) ≡ false =
    sym (ap (λ c. c && (in_mask b.mask i.number || has_load (take s b.insts.items) i.number)) h)
    ∙ (or_false _ _ bad).1 in
    let on : no (in_mask b.mask j.number) ≡ false = sym (ap (λ c. c && no (in_mask b.mask j.number)) k)
    ∙ (or_false _ _ bad').0 in
    true≢false (sym (no_false _ on) ∙ sym (ap (in_mask b.mask) same) ∙ (or_false _ _ off).0)

module _ (blocks : List Block) (good : AllGood blocks) (o : Older) (f : Frame) (ok : FrameOk blocks o f) where
  runnable : IsRunnable f.code
  runnable = good f.block f.code ok.code

  -- two instructions that fire do not name one number or the exit
  pub one_fires : (q : ℕ) → q < 449 → (s t : ℕ) (i j : Inst) → slot_of f.code s ≡ Some i → slot_of f.code t ≡ Some j
      → first_place (form_of i.op) i.number i.first ≡ q → first_place (form_of j.op) j.number j.first ≡ q
      → token_with f (slot_node f.code s) 0 ≢ None → get_or f.fired t false ≡ true → t ≡ s
  one_fires q l s t i j e d h k ready fired =
      let a = own_solves blocks good o f ok in
      let hold = own_holds blocks good o f ok in
      let same : slot_node f.code t ≡ slot_node f.code s =
      producer f.code runnable (seen o f) (own o f) a q (slot_node f.code t) (slot_node f.code s) l
      (names_it t j d k) (names_it s i e h)
      (hold.fired t fired) (there f (slot_node f.code s) 0 (seen o f) (own o f) a hold.spots ready) in
      omega arith
    where
      names_it : (s : ℕ) (i : Inst) → slot_of f.code s ≡ Some i → first_place (form_of i.op) i.number i.first ≡ q
          → NamesPlace (nodes_of f.code) (slot_node f.code s) q
      names_it s i e h = (
        inst_node s (Some i),
        slot_got f.code s (inst_in f.code.insts.items s i e)
            ∙ ap (λ o. Some (inst_node s o)) e,
        or_here _ q _ h,
      )

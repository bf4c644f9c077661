-- No token on its way finds another one at the place that it goes to.
use Rattle.std.proofs.Common.{◌≡◌, ◌≢◌, ℕ, ◌+◌, ◌-◌, ◌/◌, ◌%◌, ◌<◌, ◌≤◌, Bool, true, false, cond, nat_lt}
use Rattle.std.proofs.Common.{◌==◌, ◌⊎◌, inl, inr, List, [], ◌∷◌, Some, None, slice_get, get_or, length, refl}
use Rattle.std.proofs.Common.{sym, ap, ◌∙◌, arith}
use Rattle.std.proofs.lemmas.Bool.Decides.{nat_tests}
use Rattle.trips_isa.specs.declared.block.Block.{Block}
use Rattle.trips_isa.specs.declared.node.Node.{Node}
use Rattle.trips_isa.specs.Places.{nodes_of, inst_nodes, read_node, names, targets}
use Rattle.trips_isa.specs.Tables.{node_gives}
use Rattle.trips_isa.specs.Blocks.{at_place, computes}
use Rattle.block_cases.specs.Nodes.{hits, one_if}
use Rattle.block_cases.specs.Blocks.{wanted_of}
use Rattle.block_cases.proofs.Unique.{fires_once}
use Rattle.commit_flush_spec.specs.Frames.{Frame, at, slot_node, source, target, named_at, is_target}
use Rattle.commit_flush_spec.specs.Older.{Older, after}
use Rattle.commit_flush_spec.specs.inside.Invariant.{Holds, CameFrom, Known, FrameOk, FramesOk, AllGood, has_sent}
use Rattle.commit_flush_spec.specs.inside.Invariant.{slot_sent}
use Rattle.commit_flush_spec.specs.inside.Laws.{IsFree, AllFree}
use Rattle.commit_flush_spec.proofs.Lists.{none_or}
use Rattle.commit_flush_spec.proofs.Tokens.{read_is, read_got, producer, one_law}
use Rattle.commit_flush_spec.proofs.Frames.{own, seen, own_solves, own_holds}
use Rattle.commit_flush_spec.proofs.Delivers.{named}
use Rattle.commit_flush_spec.proofs.Committing.{both_true}

-- the same parity, the same half
same_place : (p r : ℕ) → p / 2 ≡ r / 2 → (p % 2 == 0) ≡ (r % 2 == 0) → p ≡ r
same_place p r h e = go (p % 2 == 0) refl (r % 2 == 0) refl
  where
    go : (a : Bool) → (p % 2 == 0) ≡ a → (b : Bool) → (r % 2 == 0) ≡ b → p ≡ r
    go true i true j = let x : p % 2 ≡ 0 = grind arith in let y : r % 2 ≡ 0 = grind arith in omega arith
    go false i false j = let x : p % 2 ≢ 0 = (λ z. let bad : (p % 2 == 0) ≡ true = grind (arith, z) in
        absurd (cc)) in let y : r % 2 ≢ 0 = (λ z. let bad : (r % 2 == 0) ≡ true = grind (arith, z) in
        absurd (cc)) in omega arith
    go true i false j = absurd (cc)
    go false i true j = absurd (cc)

hits_twice : (n : Node) (q : ℕ) → n.first ≡ q → n.second ≡ q → 1 < hits (targets n) q
hits_twice n q e k = rw (e, k) (twice (q == q) (grind arith))
  where
    twice : (b : Bool) → b ≡ true → 1 < one_if b + (one_if b + 0)
    twice true e = omega arith
    twice false e = absurd (cc)

module _ (blocks : List Block) (good : AllGood blocks) (o : Older) (f : Frame) (ok : FrameOk blocks o f) where
  abbrev b : Block
  b = f.code

  holds : Holds blocks f (own o f)
  holds = own_holds blocks good o f ok

  -- what a place's node gave, where it has sent
  fired : (p : ℕ) → has_sent f p ≡ true → (p < 256) ⊎ ((256 ≤ p) × ((p - 256) / 2 < length b.reads.items))
  fired p e = go (nat_lt p 256) refl e
    where
      go : (c : Bool) → nat_lt p 256 ≡ c → cond c (slot_sent f (p / 2)) (get_or f.reads ((p - 256) / 2) false) ≡ true
          → (p < 256) ⊎ ((256 ≤ p) × ((p - 256) / 2 < length b.reads.items))
      go true i h = inl (grind (arith, nat_tests))
      go false i h = let k : Known o f ((p - 256) / 2) = ok.reads ((p - 256) / 2) h in
          inr (grind (arith, nat_tests), read_is b.reads.items ((p - 256) / 2) k.slot k.is_slot)

  -- two places of one node with the same number are the same
  placed : (p r : ℕ) → has_sent f p ≡ true → has_sent f r ≡ true → source b p ≡ source b r
      → (p % 2 == 0) ≡ (r % 2 == 0) → p ≡ r
  placed p r h k e s = elim (fired p h) [
    | inl x ↦ elim (fired r k) [
      | inl y ↦ same_place p r (let a = at_slot p x in let c = at_slot r y in omega (arith, a, c, e)) s
      | inr y ↦ absurd (let a = at_slot p x in let c = at_read r y.0 in let z = y.1 in omega (arith, a, c, e, z))
    ]
    | inr x ↦ elim (fired r k) [
      | inl y ↦ absurd (let a = at_read p x.0 in let c = at_slot r y in let z = x.1 in omega (arith, a, c, e, z))
      | inr y ↦ same_place p r (let a = at_read p x.0 in let c = at_read r y.0 in let u = x.0 in let v = y.0 in
          omega (arith, a, c, e, u, v)) s
    ]
  ]
    where
      at_slot : (p : ℕ) → p < 256 → source b p ≡ length b.reads.items + p / 2
      at_slot p l = let i : nat_lt p 256 ≡ true = grind (arith, nat_tests) in
          ap (λ c. cond c (slot_node b (p / 2)) ((p - 256) / 2)) i

      at_read : (p : ℕ) → 256 ≤ p → source b p ≡ (p - 256) / 2
      at_read p l = let i : nat_lt p 256 ≡ false = grind (arith, nat_tests) in
          ap (λ c. cond c (slot_node b (p / 2)) ((p - 256) / 2)) i

  pub is_free : ((p : ℕ) → has_sent f p ≡ true → own o f (source b p) ≢ None) → IsFree f
  is_free gave p pr goes = elim (none_or (at f.spots (target b p))) [ inl z ↦ z | inr z ↦ absurd (two z) ]
    where
      two : at f.spots (target b p) ≢ None → ⊥
      two z =
          let c : CameFrom f (target b p) = ok.once.spots (target b p) z in
          let sent : has_sent f p ≡ true = ok.once.places p pr in
          let small : target b p < 449 = grind (arith, nat_tests, goes) in
          let goes' : is_target (target b c.0) ≡ true = ap is_target c.1 ∙ goes in
          let n = named b p goes in
          let m = named b c.0 goes' in
          let same : source b c.0 ≡ source b p =
          producer b (good f.block b ok.code) (seen o f) (own o f) (own_solves blocks good o f ok) (target b p)
          (source b c.0) (source b p) small
          (m.0, m.1, ap (λ q. names (targets m.0) q) (sym c.1) ∙ m.2) n (gave c.0 c.2) (gave p sent) in
          let it : c.0 ≡ p = placed c.0 p c.2 sent same (parity c.0 p same c.1 n.0 n.1 small (gave p sent)) in
          pr (ap (at f.places) (sym it) ∙ c.3)
        where
          parity : (r p : ℕ) → source b r ≡ source b p → target b r ≡ target b p → (n : Node)
              → slice_get (nodes_of b) (source b p) ≡ Some n → target b p < 449 → own o f (source b p) ≢ None
              → (r % 2 == 0) ≡ (p % 2 == 0)
          parity r p e t n i l g = go (r % 2 == 0) refl (p % 2 == 0) refl
            where
              at_p : target b p ≡ named_at (Some n) (p % 2 == 0)
              at_p = ap (λ x. named_at x (p % 2 == 0)) i

              at_r : target b p ≡ named_at (Some n) (r % 2 == 0)
              at_r = sym t ∙ ap (λ x. named_at x (r % 2 == 0)) (ap (slice_get (nodes_of b)) e ∙ i)

              once : hits (targets n) (target b p) ≤ 1
              once = fires_once (nodes_of b) (wanted_of b) (own o f)
                  (one_law b (good f.block b ok.code) (seen o f) (own o f) (own_solves blocks good o f ok))
                  (target b p) (source b p) n l i g

              go : (x : Bool) → (r % 2 == 0) ≡ x → (y : Bool) → (p % 2 == 0) ≡ y → x ≡ y
              go true u true v = refl
              go false u false v = refl
              go true u false v = absurd (let first : n.first ≡ target b p =
                  sym (at_r ∙ ap (named_at (Some n)) u) in
                  let second : n.second ≡ target b p = sym (at_p ∙ ap (named_at (Some n)) v) in
                  let h = hits_twice n (target b p) first second in let k = once in omega (arith, h, k))
              go false u true v = absurd (let first : n.first ≡ target b p =
                  sym (at_p ∙ ap (named_at (Some n)) v) in
                  let second : n.second ≡ target b p = sym (at_r ∙ ap (named_at (Some n)) u) in
                  let h = hits_twice n (target b p) first second in let k = once in omega (arith, h, k))

  -- what has sent its token gives one
  pub gave : (p : ℕ) → has_sent f p ≡ true → own o f (source b p) ≢ None
  gave p e = go (nat_lt p 256) refl e
    where
      go : (c : Bool) → nat_lt p 256 ≡ c → cond c (slot_sent f (p / 2)) (get_or f.reads ((p - 256) / 2) false) ≡ true
          → own o f (cond c (slot_node b (p / 2)) ((p - 256) / 2)) ≢ None
      go true i h = (holds).fired (p / 2) (both_true _ _ h).0
      go false i h =
          let k : Known o f ((p - 256) / 2) = ok.reads ((p - 256) / 2) h in
          let s = own_solves blocks good o f ok ((p - 256) / 2) in
          λ z. let bad : node_gives (Some (read_node k.slot)) (computes b (seen o f) ((p - 256) / 2))
          (at_place b (own o f)) ≡ None =
          sym (ap (λ q. node_gives q (computes b (seen o f) ((p - 256) / 2)) (at_place b (own o f)))
          (read_got b.reads.items (inst_nodes 0 b.insts.items) ((p - 256) / 2) k.slot k.is_slot)) ∙ sym s ∙ z in cc

-- no token of a right frame finds another one at its place
pub all_free : (blocks : List Block) → AllGood blocks → (fs : List Frame) (o : Older) → FramesOk blocks o fs
    → AllFree fs
all_free blocks good [] o ok = tt
all_free blocks good (f ∷ fs) o ok = (
  is_free blocks good o f ok.2 (gave blocks good o f ok.2),
  all_free blocks good fs (after f o) ok.3,
)

-- Each event of one frame loses no token.
use Rattle.std.proofs.Common.{◌≡◌, ◌≢◌, ℕ, suc, ◌+◌, ◌-◌, ◌*◌, ◌/◌, ◌%◌, ◌<◌, ◌≤◌, Bool, true, false, cond}
use Rattle.std.proofs.Common.{not, nat_lt, ◌&&◌, ◌||◌, ◌==◌, ◌⊎◌, inl, inr, List, Option, Some, None}
use Rattle.std.proofs.Common.{slice_get, set, get_or, length, refl, sym, ap, ap₂, ◌∙◌, subst, true≢false}
use Rattle.std.proofs.Common.{arith}
use Rattle.std.specs.Prelude.{is_some, is_none}
use Rattle.std.proofs.lemmas.Bool.Decides.{nat_tests}
use Rattle.trips_isa.specs.declared.block.Inst.{Inst}
use Rattle.trips_isa.specs.declared.block.ReadSlot.{ReadSlot}
use Rattle.trips_isa.specs.declared.block.Spot.{Spot}
use Rattle.trips_isa.specs.Fits.{FitsForm}
use Rattle.trips_isa.specs.declared.block.Block.{Block}
use Rattle.trips_isa.specs.declared.form.Form.{Form}
use Rattle.trips_isa.specs.declared.form.Form.TheVariants.{General, Immediate, Load, Store, Branch, Constant}
use Rattle.trips_isa.specs.Forms.{form_of, is_load, is_store}
use Rattle.trips_isa.specs.Rule.{Answer}
use Rattle.trips_isa.specs.Places.{nodes_of, read_node, inst_node, inst_nodes, first_place, place_at}
use Rattle.trips_isa.specs.Tables.{node_gives}
use Rattle.trips_isa.specs.Blocks.{computes}
use Rattle.block_cases.specs.Orders.{slot_of}
use Rattle.commit_flush_spec.specs.Frames.{Frame, Taken, at, slot_node, source, target, named_at, is_target}
use Rattle.commit_flush_spec.specs.Sending.{send, token_with}
use Rattle.commit_flush_spec.specs.Older.{Older}
use Rattle.commit_flush_spec.specs.Causes.{NoFrame, NoRead, NotYet, NoInst, NotReady, Done}
use Rattle.commit_flush_spec.specs.Dataflow.{can_read, read, read_seen, read_answered, can_fire, fire}
use Rattle.commit_flush_spec.specs.Dataflow.{fire_form, fire_inst}
use Rattle.commit_flush_spec.specs.inside.Invariant.{FrameOk, IsRunnable, AllGood, has_sent, slot_sent, inst_sent}
use Rattle.commit_flush_spec.specs.inside.Laws.{NoneLost}
use Rattle.commit_flush_spec.proofs.Lists.{none_or, other_at, set_here, flag_or}
use Rattle.commit_flush_spec.proofs.Look.{or_false}
use Rattle.commit_flush_spec.proofs.Tokens.{inst_in, slot_got, read_is, read_got}
use Rattle.commit_flush_spec.proofs.Frames.{not_now}
use Rattle.commit_flush_spec.proofs.Sends.{moved, slot_source, read_source}
use Rattle.commit_flush_spec.proofs.Flow.{some_of}
use Rattle.commit_flush_spec.proofs.Loads.{one_load}
use Rattle.commit_flush_spec.proofs.Stored.{number_small, inst_fits}
use Rattle.commit_flush_spec.proofs.Storing.{store_form}
use Rattle.commit_flush_spec.proofs.Committing.{both_true}
use Rattle.commit_flush_spec.proofs.Lost.{sent_there, sent_stands, load_not_store, one_fires}

-- sending ----------------------------------------------------------------------------------------

module _ (f : Frame) (F R : List Bool) (Q : List (Option ℕ)) (V : Option ℕ) (L : List (Option Taken))
    (lost : NoneLost f)
    (loads : (s : ℕ) (i : Inst) → slot_of f.code s ≡ Some i → is_load (form_of i.op) ≡ true → get_or F s false ≡ true
    → (at L i.number ≢ None) ⊎ (at Q i.number ≡ Some s))
    (stores : (s : ℕ) (i : Inst) → slot_of f.code s ≡ Some i → is_store (form_of i.op) ≡ true
    → get_or F s false ≡ true → (at f.stores i.number ≢ None) ⊎ (at Q i.number ≡ Some s))
    (exits : (s : ℕ) (i : Inst) → slot_of f.code s ≡ Some i → form_of i.op ≡ Branch → get_or F s false ≡ true
    → (f.exit ≢ None) ⊎ (V ≡ Some s)) where
  -- nothing is sent
  pub waits_kept : ((q : ℕ) → has_sent (moved f F R Q V L) q ≡ true → is_target (target f.code q) ≡ true
      → has_sent f q ≡ true) → NoneLost (moved f F R Q V L)
  waits_kept same = record {
    tokens = λ q e g. lost.tokens q (same q e g) g;
    loads = loads;
    stores = stores;
    exits =
        exits;
  }

  -- a node that sends its token to its two places loses none
  pub sends_kept : (x p : ℕ) (T : Answer) → T ≢ None → p % 2 ≡ 0 → suc p < length f.places → (source f.code p ≡ x)
      × (source f.code (suc p) ≡ x)
      → ((q : ℕ) → has_sent (moved f F R Q V L) q ≡ true → (has_sent f q ≡ true) ⊎ ((q ≡ p) ⊎ (q ≡ suc p)))
      → NoneLost (send x p T (moved f F R Q V L))
  sends_kept x p None n even l from newly = absurd (n refl)
  sends_kept x p (Some t) n even l from newly = record {
    tokens = λ q e g. elim (newly q e) [
      | inl z ↦ elim (lost.tokens q z g)
          [ inl w ↦ inl (sent_there (slice_get (nodes_of f.code) x) f.places p t q w) | inr w ↦ inr w ]
      | inr z ↦ inl (sent_stands f.code f.places x p t q even l z (elim z [
        | inl w ↦ ap (source f.code) w
            ∙ from.0
        | inr w ↦ ap (source f.code) w ∙ from.1
      ]) g)
    ];
    loads = loads;
    stores = stores;
    exits = exits;
  }

-- the two places of a slot or a read -------------------------------------------------------------

-- a place is the first or the second of its node
pub half_places : (q k : ℕ) → q / 2 ≡ k → (q ≡ 2 * k) ⊎ (q ≡ suc (2 * k))
half_places q k e = go (q % 2 == 0) refl
  where
    go : (b : Bool) → (q % 2 == 0) ≡ b → (q ≡ 2 * k) ⊎ (q ≡ suc (2 * k))
    go true i = inl (let z : q % 2 ≡ 0 = grind (arith, nat_tests) in omega arith)
    go false i = inr (let z : q % 2 ≢ 0 = (λ w. let bad : (q % 2 == 0) ≡ true = grind (arith, w) in absurd (cc)) in
        omega arith)

read_places : (q r : ℕ) → 256 ≤ q → (q - 256) / 2 ≡ r → (q ≡ 256 + 2 * r) ⊎ (q ≡ suc (256 + 2 * r))
read_places q r l e = elim (half_places (q - 256) r e) [ inl z ↦ inl (omega arith) | inr z ↦ inr (omega arith) ]

-- reads ------------------------------------------------------------------------------------------

read_token : (f : Frame) (r w : ℕ) (slot : ReadSlot) → slice_get f.code.reads.items r ≡ Some slot
    → token_with f r w ≢ None
read_token f r w slot e z =
    let bad : node_gives (Some (read_node slot)) (computes f.code (λ y a. w) r) (at f.spots) ≡ None =
    sym (ap (λ q. node_gives q (computes f.code (λ y a. w) r) (at f.spots))
    (read_got f.code.reads.items (inst_nodes 0 f.code.insts.items) r slot e)) ∙ z in cc

-- a Read that is done loses no token
pub read_kept : (blocks : List Block) → AllGood blocks → (r : ℕ) (o : Older) (f : Frame) → can_read r o f ≡ Done
    → FrameOk blocks o f → NoneLost f → NoneLost (read r o f)
read_kept blocks good r o f c ok lost =
    let x = not_now f.sealed NoFrame _ c in
    let y = not_now (is_none (slice_get f.code.reads.items r) || get_or f.reads r false) NoRead _ x.1 in
    let z = not_now (is_none (read_seen o (slice_get f.code.reads.items r))) NotYet _ y.1 in
    let slot = some_of (slice_get f.code.reads.items r) (or_false _ _ y.0).0 in
    let word = some_of (read_seen o (slice_get f.code.reads.items r)) z.0 in
    let lt : r < length f.code.reads.items = read_is f.code.reads.items r slot.0 slot.1 in
    let few : length f.code.reads.items ≤ 32 = (good f.block f.code ok.code).fits.reads in
    let all : length f.places ≡ 320 = ok.sized.places in
    let even : (256 + 2 * r) % 2 ≡ 0 = omega arith in
    let room : suc (256 + 2 * r) < length f.places = omega arith in
    subst (λ q. NoneLost (read_answered r q f)) (sym word.1)
    (sends_kept f f.fired (set f.reads r true) f.requests f.leaving f.loads lost lost.loads lost.stores lost.exits
    r (256 + 2 * r) (token_with f r word.0) (read_token f r word.0 slot.0 slot.1) even room (read_source f.code r)
    newly)
  where
    newly : (q : ℕ) → has_sent (moved f f.fired (set f.reads r true) f.requests f.leaving f.loads) q ≡ true
        → (has_sent f q ≡ true) ⊎ ((q ≡ 256 + 2 * r) ⊎ (q ≡ suc (256 + 2 * r)))
    newly q e = go (nat_lt q 256) refl e
      where
        go : (b : Bool) → nat_lt q 256 ≡ b
            → cond b (slot_sent f (q / 2)) (get_or (set f.reads r true) ((q - 256) / 2) false) ≡ true
            → (cond b (slot_sent f (q / 2)) (get_or f.reads ((q - 256) / 2) false) ≡ true) ⊎
            ((q ≡ 256 + 2 * r) ⊎ (q ≡ suc (256 + 2 * r)))
        go true i h = inl h
        go false i h = elim (flag_or f.reads r ((q - 256) / 2) h) [
          | inl z ↦ inr (read_places q r (grind (arith, nat_tests)) z)
          | inr z ↦ inl z
        ]

-- firing -----------------------------------------------------------------------------------------

module _ (blocks : List Block) (good : AllGood blocks) (o : Older) (f : Frame) (ok : FrameOk blocks o f)
    (lost : NoneLost f)
    (s : ℕ) (i : Inst) (is : slot_of f.code s ≡ Some i) (unfired : get_or f.fired s false ≡ false)
    (ready : token_with f (slot_node f.code s) 0 ≢ None) where
  abbrev F : List Bool
  F = set f.fired s true

  runnable : IsRunnable f.code
  runnable = good f.block f.code ok.code

  small : s < 128
  small =
      let lt : s < length f.code.insts.items = inst_in f.code.insts.items s i is in
      let all : length f.code.insts.items ≡ 128 = (runnable).fits.insts in
      omega arith

  number_in : i.number < length f.requests
  number_in = let n : i.number < 32 = number_small f.code (runnable).fits s i is in
      let e : length f.requests ≡ 32 = ok.sized.requests in omega arith

  -- an instruction that had fired is another one
  not_this : (t : ℕ) → get_or f.fired t false ≡ true → t ≢ s
  not_this t e z = true≢false (sym e ∙ ap (λ y. get_or f.fired y false) z ∙ unfired)

  same_inst : (t : ℕ) (j : Inst) → t ≡ s → slot_of f.code t ≡ Some j → i ≡ j
  same_inst t j z e = let a : slot_of f.code s ≡ Some j = subst (λ y. slot_of f.code y ≡ Some j) z e in cc

  newly : (Q : List (Option ℕ)) (V : Option ℕ) (q : ℕ) → has_sent (moved f F f.reads Q V f.loads) q ≡ true
      → (has_sent f q ≡ true) ⊎ ((q / 2 ≡ s) × (q < 256) × (inst_sent f (Some i) ≡ true))
  newly Q V q e = go (nat_lt q 256) refl e
    where
      go : (b : Bool) → nat_lt q 256 ≡ b
          → cond b (get_or F (q / 2) false && inst_sent f (slot_of f.code (q / 2)))
          (get_or f.reads ((q - 256) / 2) false) ≡ true
          → (cond b (slot_sent f (q / 2)) (get_or f.reads ((q - 256) / 2) false) ≡ true) ⊎ ((q / 2 ≡ s) × (q < 256)
          × (inst_sent f (Some i) ≡ true))
      go true w h =
          let p = both_true _ _ h in
          elim (flag_or f.fired s (q / 2) p.0) [
            | inl z ↦ inr (z, grind (arith, nat_tests), sym (ap (inst_sent f) (ap (slot_of f.code) z ∙ is)) ∙ p.1)
            | inr z ↦ inl (ap₂ (λ x y. x && y) z p.1)
          ]
      go false w h = inl h

  -- one that waits had not sent a token
  unsent : is_load (form_of i.op) ≡ true → inst_sent f (Some i) ≡ true → ⊥
  unsent l e = elim (none_or (at f.loads i.number)) [
    | inl z ↦ true≢false (sym e ∙ ap₂ (λ x y. not x || is_some y) l z)
    | inr z ↦ true≢false (sym (ok.answered s i is l z) ∙ unfired)
  ]

  pub gives_kept : is_load (form_of i.op) ≡ false → is_store (form_of i.op) ≡ false → (form_of i.op ≡ Branch → ⊥)
      → NoneLost (send (slot_node f.code s) (2 * s) (token_with f (slot_node f.code s) 0) (record f { fired = F }))
  gives_kept nl ns nb =
      let even : 2 * s % 2 ≡ 0 = omega arith in
      let all : length f.places ≡ 320 = ok.sized.places in
      let l = small in
      let room : suc (2 * s) < length f.places = omega (arith, all, l) in
      sends_kept f F f.reads f.requests f.leaving f.loads lost
      (λ t j e k h. elim (flag_or f.fired s t h) [
        | inl z ↦ absurd (true≢false (sym k
            ∙ sym (ap (λ (y : Inst). is_load (form_of y.op)) (same_inst t j z e)) ∙ nl))
        | inr z ↦ lost.loads t j e k z
      ])
      (λ t j e k h. elim (flag_or f.fired s t h) [
        | inl z ↦ absurd (true≢false (sym k
            ∙ sym (ap (λ (y : Inst). is_store (form_of y.op)) (same_inst t j z e))
            ∙ ns))
        | inr z ↦ lost.stores t j e k z
      ])
      (λ t j e k h. elim (flag_or f.fired s t h) [
        | inl z ↦ absurd (nb (ap (λ (y : Inst). form_of y.op) (same_inst t j z e)
            ∙ k))
        | inr z ↦ lost.exits t j e k z
      ])
      (slot_node f.code s) (2 * s) (token_with f (slot_node f.code s) 0) ready even room (slot_source f.code s small)
      (λ q h. elim (newly f.requests f.leaving q h) [ inl z ↦ inl z | inr z ↦ inr (half_places q s z.0) ])

  -- a request is not overwritten by another number
  other_request : (n t : ℕ) → n ≢ i.number → at f.requests n ≡ Some t
      → at (set f.requests i.number (Some s)) n ≡ Some t
  other_request n t z e = other_at f.requests i.number n (Some s) z ∙ e

  new_request : (t : ℕ) (j : Inst) → t ≡ s → slot_of f.code t ≡ Some j
      → at (set f.requests i.number (Some s)) j.number ≡ Some t
  new_request t j z e = ap (λ (y : Inst). at (set f.requests i.number (Some s)) y.number) (sym (same_inst t j z e))
      ∙ set_here f.requests i.number (Some s) number_in ∙ ap Some (sym z)

  abbrev Q : List (Option ℕ)
  Q = set f.requests i.number (Some s)

  pub load_waits : is_load (form_of i.op) ≡ true → (form_of i.op ≡ Branch → ⊥)
      → NoneLost (record f { fired = F; requests = Q })
  load_waits l nb = waits_kept f F f.reads Q f.leaving f.loads lost
      (λ t j e k h. elim (flag_or f.fired s t h) [
        | inl z ↦ inr (new_request t j z e)
        | inr z ↦ elim (lost.loads t j e k z) [
          | inl w ↦ inl w
          | inr w ↦ inr (other_request j.number t
              (λ y. not_this t z (one_load f.code runnable t s j i e is k l y)) w)
        ]
      ])
      (λ t j e k h. elim (flag_or f.fired s t h) [
        | inl z ↦ inr (new_request t j z e)
        | inr z ↦ elim (lost.stores t j e k z) [
          | inl w ↦ inl w
          | inr w ↦ inr (other_request j.number t
              (λ y. load_not_store f.code runnable s t i j is e l k (sym y)) w)
        ]
      ])
      (λ t j e k h. elim (flag_or f.fired s t h) [
        | inl z ↦ absurd (nb (ap (λ (y : Inst). form_of y.op) (same_inst t j z e)
            ∙ k))
        | inr z ↦ lost.exits t j e k z
      ])
      (λ q h g. elim (newly Q f.leaving q h) [ inl z ↦ z | inr z ↦ absurd (unsent l z.2) ])

  -- a store and a branch send no token
  no_target : (form_of i.op ≡ Store) ⊎ (form_of i.op ≡ Branch) → (q : ℕ) → q / 2 ≡ s → q < 256
      → is_target (target f.code q) ≡ true → ⊥
  no_target k q e l g =
      let slot : source f.code q ≡ slot_node f.code s = (let w : nat_lt q 256 ≡ true = grind (arith, nat_tests) in
      ap (λ c. cond c (slot_node f.code (q / 2)) ((q - 256) / 2)) w ∙ ap (slot_node f.code) e) in
      let node : slice_get (nodes_of f.code) (source f.code q) ≡ Some (inst_node s (Some i)) =
      ap (slice_get (nodes_of f.code)) slot ∙ slot_got f.code s (inst_in f.code.insts.items s i is)
      ∙ ap (λ o. Some (inst_node s o)) is in
      let named : is_target (named_at (Some (inst_node s (Some i))) (q % 2 == 0)) ≡ true =
      sym (ap (λ y. is_target (named_at y (q % 2 == 0))) node) ∙ g in
      by (form_of i.op) (inst_fits f.code (runnable).fits s i is) k (q % 2 == 0) named
    where
      low : (c : Bool) (n : ℕ) (t : Option Spot) → t ≡ None → 416 ≤ n → is_target (cond c n (place_at t)) ≡ true → ⊥
      low true n t z l h = let k : n < 416 = grind (arith, nat_tests) in omega arith
      low false n t z l h = let k : place_at t < 416 = grind (arith, nat_tests) in
          let w : place_at t ≡ 700 = ap place_at z in omega arith

      by : (t : Form) → FitsForm t i → (t ≡ Store) ⊎ (t ≡ Branch) → (c : Bool)
          → is_target (cond c (first_place t i.number i.first) (place_at i.second)) ≡ true → ⊥
      by Store f k c h = low c (416 + i.number) i.second (f.0).second (omega arith) h
      by Branch f k c h = low c 448 i.second (f.0).second (omega arith) h
      by General f (inl z) c h = cc
      by General f (inr z) c h = cc
      by Immediate f (inl z) c h = cc
      by Immediate f (inr z) c h = cc
      by Load f (inl z) c h = cc
      by Load f (inr z) c h = cc
      by Constant f (inl z) c h = cc
      by Constant f (inr z) c h = cc

  pub store_waits : form_of i.op ≡ Store → NoneLost (record f { fired = F; requests = Q })
  store_waits k0 = waits_kept f F f.reads Q f.leaving f.loads lost
      (λ t j e k h. elim (flag_or f.fired s t h) [
        | inl z ↦ inr (new_request t j z e)
        | inr z ↦ elim (lost.loads t j e k z) [
          | inl w ↦ inl w
          | inr w ↦ inr (other_request j.number t
              (λ y. load_not_store f.code runnable t s j i e is k (ap is_store k0) y) w)
        ]
      ])
      (λ t j e k h. elim (flag_or f.fired s t h) [
        | inl z ↦ inr (new_request t j z e)
        | inr z ↦ elim (lost.stores t j e k z)
            [ inl w ↦ inl w | inr w ↦ inr (other_request j.number t (λ y. not_this t z (same_slot t j e k z y)) w) ]
      ])
      (λ t j e k h. elim (flag_or f.fired s t h) [
        | inl z ↦ absurd (let bad : Store ≡ Branch = sym k0 ∙ ap (λ (y : Inst). form_of y.op) (same_inst t j z e)
            ∙ k in cc)
        | inr z ↦ lost.exits t j e k z
      ])
      (λ q h g. elim (newly Q f.leaving q h) [ inl z ↦ z | inr z ↦ absurd (no_target (inl k0) q z.0 z.1 g) ])
    where
      same_slot : (t : ℕ) (j : Inst) → slot_of f.code t ≡ Some j → is_store (form_of j.op) ≡ true
          → get_or f.fired t false ≡ true → j.number ≡ i.number → t ≡ s
      same_slot t j e k z y =
          let n : i.number < 32 = number_small f.code (runnable).fits s i is in
          one_fires blocks good o f ok (416 + i.number) (omega arith) s t i j is e
          (ap (λ c. first_place c i.number i.first) k0)
          (ap (λ c. first_place c j.number j.first) (store_form (form_of j.op) k) ∙ ap (λ m. 416 + m) y) ready z

  pub branch_waits : form_of i.op ≡ Branch → NoneLost (record f { fired = F; leaving = Some s })
  branch_waits k0 = waits_kept f F f.reads f.requests (Some s) f.loads lost
      (λ t j e k h. elim (flag_or f.fired s t h) [
        | inl z ↦ absurd (let bad : true ≡ is_load Branch = sym k
            ∙ sym (ap (λ (y : Inst). is_load (form_of y.op)) (same_inst t j z e)) ∙ ap is_load k0 in cc)
        | inr z ↦ lost.loads t j e k z
      ])
      (λ t j e k h. elim (flag_or f.fired s t h) [
        | inl z ↦ absurd (let bad : true ≡ is_store Branch = sym k
            ∙ sym (ap (λ (y : Inst). is_store (form_of y.op)) (same_inst t j z e)) ∙ ap is_store k0 in cc)
        | inr z ↦ lost.stores t j e k z
      ])
      (λ t j e k h. elim (flag_or f.fired s t h) [
        | inl z ↦ inr (ap Some (sym z))
        | inr z ↦ elim (lost.exits t j e k z) [
          | inl w ↦ inl w
          | inr w ↦ absurd (not_this t z
              (one_fires blocks good o f ok 448 (omega arith) s t i j is e
              (ap (λ c. first_place c i.number i.first) k0) (ap (λ c. first_place c j.number j.first) k) ready z))
        ]
      ])
      (λ q h g. elim (newly f.requests (Some s) q h) [ inl z ↦ z | inr z ↦ absurd (no_target (inr k0) q z.0 z.1 g) ])

  pub form_kept : (t : Form) → form_of i.op ≡ t → NoneLost (fire_form t i s (record f { fired = F }))
  form_kept General e = gives_kept (ap is_load e) (ap is_store e) (λ z. let bad : General ≡ Branch = sym e ∙ z in cc)
  form_kept Immediate e = gives_kept (ap is_load e) (ap is_store e) (λ z. let bad : Immediate ≡ Branch = sym e
      ∙ z in cc)
  form_kept Constant e = gives_kept (ap is_load e) (ap is_store e) (λ z. let bad : Constant ≡ Branch = sym e
      ∙ z in cc)
  form_kept Load e = load_waits (ap is_load e) (λ z. let bad : Load ≡ Branch = sym e ∙ z in cc)
  form_kept Store e = store_waits e
  form_kept Branch e = branch_waits e

-- a Fire that is done loses no token
pub fire_kept : (blocks : List Block) → AllGood blocks → (s : ℕ) (o : Older) (f : Frame) → can_fire s o f ≡ Done
    → FrameOk blocks o f → NoneLost f → NoneLost (fire s o f)
fire_kept blocks good s o f c ok lost =
    let a = not_now f.sealed NoFrame _ c in
    let b = not_now (is_none (slot_of f.code s) || get_or f.fired s false) NoInst _ a.1 in
    let d = not_now (is_none (token_with f (slot_node f.code s) 0)) NotReady _ b.1 in
    let e = or_false _ _ b.0 in
    let i = some_of (slot_of f.code s) e.0 in
    subst (λ q. NoneLost (fire_inst q s (record f { fired = set f.fired s true }))) (sym i.1)
    (form_kept blocks good o f ok lost s i.0 i.1 e.1
    (λ z. let bad : is_none (token_with f (slot_node f.code s) 0) ≡ true = ap is_none z in
    true≢false (sym bad ∙ d.0)) (form_of (i.0).op) refl)

-- Deliver leaves a frame right.
use Rattle.std.proofs.Common.{length, ◌≡◌, ◌≢◌, ℕ, ◌%◌, ◌<◌, Bool, true, false, cond, not, ◌||◌, ◌==◌, inl, inr, List}
use Rattle.std.proofs.Common.{Option, Some, None, slice_get, set, refl, sym, ap, ◌∙◌, subst, true≢false}
use Rattle.std.proofs.Common.{arith}
use Rattle.std.specs.Prelude.{is_none}
use Rattle.std.proofs.lemmas.List.{length-set}
use Rattle.std.proofs.lemmas.Bool.Decides.{nat_tests}
use Rattle.trips_isa.specs.declared.block.Token.{Token}
use Rattle.trips_isa.specs.declared.block.Block.{Block}
use Rattle.trips_isa.specs.declared.node.Node.{Node}
use Rattle.trips_isa.specs.Rule.{Answer}
use Rattle.trips_isa.specs.Places.{nodes_of, targets, names}
use Rattle.trips_isa.specs.Blocks.{Responses, at_place, computes}
use Rattle.trips_isa.specs.inside.Blocks.{Solves}
use Rattle.trips_isa.specs.Tables.{node_gives}
use Rattle.block_cases.specs.inside.Good.{NamesPlace}
use Rattle.commit_flush_spec.specs.Frames.{Frame, at, slot_node, source, target, named_at, is_target}
use Rattle.commit_flush_spec.specs.Sending.{token_with}
use Rattle.commit_flush_spec.specs.Older.{Older}
use Rattle.commit_flush_spec.specs.Causes.{NoToken, Done}
use Rattle.commit_flush_spec.specs.Dataflow.{can_deliver, deliver, delivered}
use Rattle.commit_flush_spec.specs.inside.Invariant.{Below, Agrees, Holds, FrameOk, AllGood}
use Rattle.trips_isa.specs.Marks.{mark_at}
use Rattle.trips_isa.specs.inside.Marks.{IsMarking}
use Rattle.commit_flush_spec.specs.Marks.{mark_on, mark_delivered}
use Rattle.commit_flush_spec.specs.inside.Invariant.{MarksAgree}
use Rattle.commit_flush_spec.proofs.Marking.{mark_here, mark_other, mark_placed}
use Rattle.commit_flush_spec.proofs.Lists.{equal_or, other_at, below_is, set_under, set_over, written_or}
use Rattle.commit_flush_spec.proofs.Lists.{none_at, still_none}
use Rattle.commit_flush_spec.proofs.Look.{through_more}
use Rattle.commit_flush_spec.proofs.Tokens.{node_below, placed_is}
use Rattle.commit_flush_spec.proofs.Frames.{Goes, not_now, own, seen, seen_agrees, own_solves, own_holds}
use Rattle.commit_flush_spec.proofs.Loads.{not_false}
use Rattle.commit_flush_spec.proofs.Flow.{some_of}

-- the first of a disjunction of tests passes at its own number
pub or_here : (t q : ℕ) (b : Bool) → t ≡ q → ((t == q) || b) ≡ true
or_here t q b e = grind (arith, nat_tests, e)

or_there : (a b : Bool) → b ≡ true → (a || b) ≡ true
or_there true b e = refl
or_there false b e = e

-- a node names the place that its token is delivered at
pub named : (b : Block) (p : ℕ) → is_target (target b p) ≡ true → NamesPlace (nodes_of b) (source b p) (target b p)
named b p e = go (slice_get (nodes_of b) (source b p)) refl e
  where
    pick : (n : Node) (c : Bool) → names (targets n) (cond c n.first n.second) ≡ true
    pick n true = or_here n.first n.first _ refl
    pick n false = or_there (n.first == n.second) _ (or_here n.second n.second false refl)

    go : (o : Option Node) → slice_get (nodes_of b) (source b p) ≡ o → is_target (named_at o (p % 2 == 0)) ≡ true
        → (n : Node) × (slice_get (nodes_of b) (source b p) ≡ Some n) × (names (targets n) (target b p) ≡ true)
    go None i k = absurd (cc)
    go (Some n) i k = (n, i, ap (λ o. names (targets n) (named_at o (p % 2 == 0))) i ∙ pick n (p % 2 == 0))

-- what has more tokens still gives
pub still_ready : (f g : Frame) (x : ℕ) → f.code ≡ g.code → ((q : ℕ) → Below (at f.spots q) (at g.spots q))
    → token_with f x 0 ≢ None → token_with g x 0 ≢ None
still_ready f g x e h n z =
    let up : Below (token_with f x 0)
    (node_gives (slice_get (nodes_of f.code) x) (computes f.code (λ y a. 0) x) (at g.spots)) =
    node_below (slice_get (nodes_of f.code) x) (computes f.code (λ y a. 0) x) (at f.spots) (at g.spots) h in
    n (below_is _ _ up n ∙ ap (λ c. node_gives (slice_get (nodes_of c) x) (computes c (λ y a. 0) x) (at g.spots)) e
    ∙ z)

module _ (blocks : List Block) (good : AllGood blocks) (o : Older) (f : Frame) (ok : FrameOk blocks o f)
    (runs : f.sealed ≡ false)
    (p : ℕ) (t : Token) (stands : at f.places p ≡ Some t) (goes : is_target (target f.code p) ≡ true) where
  abbrev q : ℕ
  q = target f.code p

  present : at f.places p ≢ None
  present z = let bad : Some t ≡ None = sym stands ∙ z in cc

  -- a token on its way is what is pulled at the place that it goes to
  comes : (a : Responses) (g : ℕ → Answer) → Solves f.code a g → Agrees o f a → Some t ≡ at_place f.code g q
  comes a g sol ag =
      let e : at f.places p ≡ g (source f.code p) = below_is _ _ ((ok.holds a g sol ag).places p) present in
      let gives : g (source f.code p) ≢ None = λ z. present (e ∙ z) in
      let small : q < 449 = grind (arith, nat_tests, goes) in
      sym stands ∙ e ∙ sym (placed_is f.code (good f.block f.code ok.code) a g sol g (λ j n. n) q (source f.code p)
      small (named f.code p goes) gives)

  came : Below (at f.spots q) (Some t)
  came = subst (λ u. Below (at f.spots q) u)
      (sym (comes (seen o f) (own o f) (own_solves blocks good o f ok) (seen_agrees o f)))
      ((own_holds blocks good o f ok).spots q)

  grown : (r : ℕ) → Below (at f.spots r) (at (set f.spots q (Some t)) r)
  grown = set_over f.spots q (Some t) came

  abbrev D : Frame
  D = record f {
    places = set f.places p None;
    spots = set f.spots q (Some t);
    marks = mark_delivered p q f.marks;
  }

  -- the mark goes along
  marks : (a : Responses) (g : ℕ → Answer) → Solves f.code a g → Agrees o f a → (m : ℕ → ℕ)
      → IsMarking f.code g m → MarksAgree D g m
  marks a g sol ag m mk = record {
    spots = λ r h. elim (equal_or r q) [
      | inl z ↦ ap (mark_on (mark_delivered p q f.marks).spots) z
          ∙ mark_here f.marks.spots q (mark_on f.marks.places p) inside ∙ k.places p present
          ∙ sym (mark_placed f.code (good f.block f.code ok.code) a g sol m q (source f.code p) small
          (named f.code p goes) gives)
          ∙ sym (ap (mark_at (nodes_of f.code) g m) z)
      | inr n ↦ mark_other f.marks.spots q r (mark_on f.marks.places p) n
          ∙ k.spots r (λ z. h (other_at f.spots q r (Some t) n ∙ z))
    ];
    places = λ r h. elim (written_or f.places p r None h) [ inl z ↦ absurd (z.1 refl) | inr z ↦ k.places r z ];
    stores = k.stores;
    exit = k.exit;
  }
    where
      k : MarksAgree f g m
      k = ok.marks a g sol ag m mk

      e : at f.places p ≡ g (source f.code p)
      e = below_is _ _ ((ok.holds a g sol ag).places p) present

      gives : g (source f.code p) ≢ None
      gives z = present (e ∙ z)

      small : q < 449
      small = grind (arith, nat_tests, goes)

      inside : q < length f.marks.spots
      inside = let s : length f.marks.spots ≡ 416 = ok.sized.spot_marks in
          let l : q < 416 = grind (arith, nat_tests, goes) in omega (arith, l)

  pub delivered_ok : Goes blocks o f (delivered p (Some t) f)
  delivered_ok = record {
    ok = record {
      code = ok.code;
      sized = record {
        spots = length-set f.spots q (Some t) ∙ ok.sized.spots;
        places = length-set f.places p None ∙ ok.sized.places;
        fired = ok.sized.fired;
        reads = ok.sized.reads;
        requests = ok.sized.requests;
        loads = ok.sized.loads;
        stores = ok.sized.stores;
        spot_marks = length-set f.marks.spots q (mark_on f.marks.places p) ∙ ok.sized.spot_marks;
        place_marks = ok.sized.place_marks;
        store_marks = ok.sized.store_marks;
      };
      reads = λ r e. let k = ok.reads r e in record {
        slot = k.slot;
        word = k.word;
        is_slot = k.is_slot;
        is_word =
            k.is_word;
      };
      sizes = ok.sizes;
      answered = ok.answered;
      asked = λ n s e. let k = ok.asked n s e in record {
        inst = k.inst;
        is_inst = k.is_inst;
        number =
            k.number;
        fired = k.fired;
        ready = still_ready f D (slot_node f.code s) refl grown k.ready;
        open_load =
            k.open_load;
      };
      leaving = λ s e. let k = ok.leaving s e in record {
        inst = k.inst;
        is_inst = k.is_inst;
        is_branch =
            k.is_branch;
        fired = k.fired;
        ready = still_ready f D (slot_node f.code s) refl grown k.ready;
      };
      holds = λ a g sol ag.
          let was : Agrees o f a = record { reads = ag.reads; loads = ag.loads } in
          let k : Holds blocks f g = ok.holds a g sol was in
          record {
            spots = set_under f.spots q (Some t) (at_place f.code g) k.spots (comes a g sol was);
            places = set_under f.places p None (λ y. g (source f.code y)) k.places tt;
            stores = k.stores;
            exit = k.exit;
            fired = k.fired;
          };
      marks = λ a g sol ag m mk. marks a g sol (record { reads = ag.reads; loads = ag.loads }) m mk;
      once = record {
        spots = λ r h. elim (written_or f.spots q r (Some t) h) [
          | inl z ↦ (p, sym z.0, ok.once.places p present, none_at f.places p)
          | inr z ↦ let c = ok.once.spots r z in (c.0, c.1, c.2, still_none f.places p c.0 c.3)
        ];
        places = λ r h. elim (written_or f.places p r None h)
            [ inl z ↦ absurd (z.1 refl) | inr z ↦ ok.once.places r z ];
      };
      whole = λ e. absurd (true≢false (sym e ∙ runs));
    };
    block = refl;
    later = record {
      look = through_more f.code.writes.items 0 (at f.spots) (at (set f.spots q (Some t))) o.look o.look grown
          (λ r v e. e);
      memory = λ x. refl;
      known = λ b e. e;
      serial = λ e. e;
    };
  }

-- a Deliver that is done leaves its frame right
pub deliver_ok : (blocks : List Block) → AllGood blocks → (p : ℕ) (o : Older) (f : Frame) → can_deliver p o f ≡ Done
    → FrameOk blocks o f → Goes blocks o f (deliver p o f)
deliver_ok blocks good p o f c ok =
    let a = not_now f.sealed NoToken _ c in
    let b = not_now (is_none (at f.places p)) NoToken _ a.1 in
    let d = not_now (not (is_target (target f.code p))) NoToken _ b.1 in
    let t = some_of (at f.places p) b.0 in
    subst (λ u. Goes blocks o f (delivered p u f)) (sym t.1)
    (delivered_ok blocks good o f ok a.0 p t.0 t.1 (not_false _ d.0))

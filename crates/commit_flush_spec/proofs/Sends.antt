-- A node that sends its token leaves its frame right.
use Rattle.std.proofs.Common.{◌≡◌, ◌≢◌, ℕ, suc, ◌+◌, ◌-◌, ◌*◌, ◌/◌, ◌<◌, Bool, true, false, cond, not, nat_lt}
use Rattle.std.proofs.Common.{◌&&◌, ◌||◌, ◌⊎◌, inl, inr, List, Option, Some, None, slice_get, get_or, set, length}
use Rattle.std.proofs.Common.{refl, sym, ap, ap₂, ◌∙◌, subst, true≢false, arith}
use Rattle.std.specs.Prelude.{is_some}
use Rattle.std.proofs.lemmas.Bool.Decides.{nat_tests}
use Rattle.std.proofs.lemmas.List.{length-set}
use Rattle.trips_isa.specs.declared.block.Token.{Token}
use Rattle.trips_isa.specs.declared.block.Inst.{Inst}
use Rattle.trips_isa.specs.declared.block.Block.{Block}
use Rattle.trips_isa.specs.declared.node.Node.{Node}
use Rattle.trips_isa.specs.Forms.{form_of, size_of, is_load}
use Rattle.trips_isa.specs.Rule.{Answer}
use Rattle.trips_isa.specs.Places.{nodes_of}
use Rattle.trips_isa.specs.Blocks.{Responses}
use Rattle.trips_isa.specs.inside.Blocks.{Solves}
use Rattle.block_cases.specs.Orders.{slot_of}
use Rattle.commit_flush_spec.specs.Frames.{Frame, Taken, Bytes, at, slot_node, source, is_target}
use Rattle.commit_flush_spec.specs.Sending.{put_if, sent, send}
use Rattle.commit_flush_spec.specs.Older.{Older, after}
use Rattle.commit_flush_spec.specs.inside.Invariant.{Below, Agrees, Holds, Asked, Leaves, Known, FrameOk, has_sent}
use Rattle.commit_flush_spec.specs.inside.Invariant.{slot_sent, inst_sent}
use Rattle.commit_flush_spec.specs.Marks.{Marks, mark_on, mark_sent}
use Rattle.commit_flush_spec.specs.Sending.{token_with, mark_with}
use Rattle.commit_flush_spec.specs.inside.Invariant.{MarksAgree}
use Rattle.commit_flush_spec.proofs.Marking.{mark_here, mark_other, marked}
use Rattle.commit_flush_spec.proofs.Lists.{equal_or, there_below, set_under, other_at, written_or}
use Rattle.commit_flush_spec.proofs.Look.{older_refl}
use Rattle.commit_flush_spec.proofs.Frames.{Goes}

-- two places are written at most -----------------------------------------------------------------

put_under : (b : Bool) (xs : List Answer) (p : ℕ) (t : Token) (G : ℕ → Answer) → ((q : ℕ) → Below (at xs q) (G q))
    → Some t ≡ G p → (q : ℕ) → Below (at (put_if b xs p t) q) (G q)
put_under true xs p t G h k = set_under xs p (Some t) G h k
put_under false xs p t G h k = h

pub sent_under : (o : Option Node) (xs : List Answer) (p : ℕ) (t : Token) (G : ℕ → Answer)
    → ((q : ℕ) → Below (at xs q) (G q)) → Some t ≡ G p → Some t ≡ G (suc p) → (q : ℕ)
    → Below (at (sent o xs p t) q) (G q)
sent_under None xs p t G h k l = h
sent_under (Some n) xs p t G h k l =
    put_under (is_target n.second) _ (suc p) t G (put_under (is_target n.first) xs p t G h k) l

put_or : (b : Bool) (xs : List Answer) (p : ℕ) (t : Token) (q : ℕ) → at (put_if b xs p t) q ≢ None
    → (q ≡ p) ⊎ (at xs q ≢ None)
put_or true xs p t q h = elim (written_or xs p q (Some t) h) [ inl z ↦ inl z.0 | inr z ↦ inr z ]
put_or false xs p t q h = inr h

pub sent_or : (o : Option Node) (xs : List Answer) (p : ℕ) (t : Token) (q : ℕ) → at (sent o xs p t) q ≢ None
    → ((q ≡ p) ⊎ (q ≡ suc p)) ⊎ (at xs q ≢ None)
sent_or None xs p t q h = inr h
sent_or (Some n) xs p t q h = elim (put_or (is_target n.second) (put_if (is_target n.first) xs p t) (suc p) t q h) [
  | inl z ↦ inl (inr z)
  | inr z ↦ elim (put_or (is_target n.first) xs p t q z) [ inl w ↦ inl (inl w) | inr w ↦ inr w ]
]

put_other : (b : Bool) (xs : List Answer) (p : ℕ) (t : Token) (q : ℕ) → q ≢ p → at (put_if b xs p t) q ≡ at xs q
put_other true xs p t q n = other_at xs p q (Some t) n
put_other false xs p t q n = refl

-- a node that sends its token leaves all other places
pub sent_other : (o : Option Node) (xs : List Answer) (p : ℕ) (t : Token) (q : ℕ) → q ≢ p → q ≢ suc p
    → at (sent o xs p t) q ≡ at xs q
sent_other None xs p t q n m = refl
sent_other (Some k) xs p t q n m = put_other (is_target k.second) _ (suc p) t q m
    ∙ put_other (is_target k.first) xs p t q n

put_size : (b : Bool) (xs : List Answer) (p : ℕ) (t : Token) → length (put_if b xs p t) ≡ length xs
put_size true xs p t = length-set xs p (Some t)
put_size false xs p t = refl

sent_size : (o : Option Node) (xs : List Answer) (p : ℕ) (t : Token) → length (sent o xs p t) ≡ length xs
sent_size None xs p t = refl
sent_size (Some n) xs p t = put_size (is_target n.second) _ (suc p) t ∙ put_size (is_target n.first) xs p t

-- what has been sent stays sent ------------------------------------------------------------------

-- a frame whose flags, requests and loads are these
abbrev pub moved : Frame → List Bool → List Bool → List (Option ℕ) → Option ℕ → List (Option Taken) → Frame
moved f F R Q V L = record f { fired = F; reads = R; requests = Q; leaving = V; loads = L }

abbrev pub Grows : List Bool → List Bool → Type 0
Grows xs ys = (k : ℕ) → get_or xs k false ≡ true → get_or ys k false ≡ true

abbrev pub Keeps : List (Option Taken) → List (Option Taken) → Type 0
Keeps xs ys = (k : ℕ) → is_some (at xs k) ≡ true → is_some (at ys k) ≡ true

and_both : (a b c d : Bool) → (a ≡ true → c ≡ true) → (b ≡ true → d ≡ true) → (a && b) ≡ true → (c && d) ≡ true
and_both true b c d h k e = ap₂ (λ x y. x && y) (h refl) (k e)
and_both false b c d h k e = absurd (cc)

or_right' : (a b d : Bool) → (b ≡ true → d ≡ true) → (a || b) ≡ true → (a || d) ≡ true
or_right' true b d h e = refl
or_right' false b d h e = h e

pub still_sent : (f : Frame) (F R : List Bool) (Q : List (Option ℕ)) (V : Option ℕ) (L : List (Option Taken))
    → Grows f.fired F → Grows f.reads R → Keeps f.loads L → (q : ℕ) → has_sent f q ≡ true
    → has_sent (moved f F R Q V L) q ≡ true
still_sent f F R Q V L h k l q = go (nat_lt q 256)
  where
    inst : (o : Option Inst) → inst_sent f o ≡ true → inst_sent (moved f F R Q V L) o ≡ true
    inst None e = e
    inst (Some i) e = or_right' (not (is_load (form_of i.op))) _ _ (l i.number) e

    go : (b : Bool) → cond b (slot_sent f (q / 2)) (get_or f.reads ((q - 256) / 2) false) ≡ true
        → cond b (slot_sent (moved f F R Q V L) (q / 2)) (get_or R ((q - 256) / 2) false) ≡ true
    go true e = and_both _ _ _ _ (h (q / 2)) (inst (slot_of f.code (q / 2))) e
    go false e = k ((q - 256) / 2) e

-- sending ----------------------------------------------------------------------------------------

-- what must be known where node x, whose places are p and p + 1, sends the token T
pub record Sends (blocks : List Block) (o : Older) (f : Frame) (F R : List Bool) (Q : List (Option ℕ)) (V : Option ℕ)
    (L : List (Option Taken)) (x p : ℕ) (T : Answer) : Type 0 where
  pub was : FrameOk blocks o f
  pub runs : f.sealed ≡ false
  pub fired_size : length F ≡ 128
  pub reads_size : length R ≡ 32
  pub requests_size : length Q ≡ 32
  pub loads_size : length L ≡ 32
  pub fired : Grows f.fired F
  pub reads : Grows f.reads R
  pub loads : Keeps f.loads L
  pub known : (r : ℕ) → get_or R r false ≡ true → Known o (moved f F R Q V L) r
  pub sizes : (s address size : ℕ) (i : Inst) → slot_of f.code s ≡ Some i → is_load (form_of i.op) ≡ true
      → at L i.number ≡ Some (Bytes address size) → size ≡ size_of i.op
  pub answered : (s : ℕ) (i : Inst) → slot_of f.code s ≡ Some i → is_load (form_of i.op) ≡ true
      → at L i.number ≢ None → get_or F s false ≡ true
  pub asked : (n s : ℕ) → at Q n ≡ Some s → Asked (moved f F R Q V L) n s
  pub leaving : (s : ℕ) → V ≡ Some s → Leaves (moved f F R Q V L) s
  pub agrees : (a : Responses) → Agrees o (moved f F R Q V L) a → Agrees o f a
  pub there : (a : Responses) (g : ℕ → Answer) → Solves f.code a g → Agrees o (moved f F R Q V L) a → (s : ℕ)
      → get_or F s false ≡ true → g (slot_node f.code s) ≢ None
  pub gives : (a : Responses) (g : ℕ → Answer) → Solves f.code a g → Agrees o (moved f F R Q V L) a → Below T (g x)
  pub ready : T ≢ None → token_with f x 0 ≢ None
  pub from : T ≢ None → (source f.code p ≡ x) × (source f.code (suc p) ≡ x)
  pub before : T ≢ None → (has_sent f p ≡ false) × (has_sent f (suc p) ≡ false)
  pub now : T ≢ None → (has_sent (moved f F R Q V L) p ≡ true) × (has_sent (moved f F R Q V L) (suc p) ≡ true)

module _ (blocks : List Block) (o : Older) (f : Frame) (F R : List Bool) (Q : List (Option ℕ)) (V : Option ℕ)
    (L : List (Option Taken)) (x p : ℕ) where
  abbrev N : Frame
  N = moved f F R Q V L

  -- the places with a token that x sends, and their marks
  abbrev sent_places : Token → List Answer
  sent_places t = sent (slice_get (nodes_of f.code) x) f.places p t

  abbrev C : List ℕ
  C = (mark_sent p (mark_with f x) f.marks).places

  -- what marks must be known then
  abbrev SizedMarks : Marks → Type 0
  SizedMarks K = (length K.spots ≡ 416) × (length K.places ≡ 320) × (length K.stores ≡ 32)

  -- with the places and the marks that it has then
  sends_with : (T : Answer) → Sends blocks o f F R Q V L x p T → (P : List Answer) → length P ≡ 320
      → (K : Marks) → SizedMarks K
      → ((g : ℕ → Answer) (m : ℕ → ℕ) → MarksAgree f g m → (T ≢ None → mark_with f x ≡ m x)
      → MarksAgree (record (moved f F R Q V L) { places = P; marks = K }) g m)
      → ((g : ℕ → Answer) → ((q : ℕ) → Below (at f.places q) (g (source f.code q))) → Below T (g x) → (q : ℕ)
      → Below (at P q) (g (source f.code q)))
      → ((q : ℕ) → at P q ≢ None → has_sent N q ≡ true)
      → ((q : ℕ) → has_sent f q ≡ true → at P q ≡ at f.places q)
      → Goes blocks o f (record (moved f F R Q V L) { places = P; marks = K })
  sends_with T h P size K sizes agree under present same = record {
    ok = record {
      code = h.was.code;
      sized = record {
        spots = h.was.sized.spots;
        places = size;
        fired = h.fired_size;
        reads = h.reads_size;
        requests = h.requests_size;
        loads = h.loads_size;
        stores = h.was.sized.stores;
        spot_marks = sizes.0;
        place_marks = sizes.1;
        store_marks = sizes.2;
      };
      reads = λ r e. let k = h.known r e in record {
        slot = k.slot;
        word = k.word;
        is_slot = k.is_slot;
        is_word =
            k.is_word;
      };
      sizes = h.sizes;
      answered = h.answered;
      asked = λ n s e. let k = h.asked n s e in record {
        inst = k.inst;
        is_inst = k.is_inst;
        number =
            k.number;
        fired = k.fired;
        ready = k.ready;
        open_load = k.open_load;
      };
      leaving = λ s e. let k = h.leaving s e in record {
        inst = k.inst;
        is_inst = k.is_inst;
        is_branch =
            k.is_branch;
        fired = k.fired;
        ready = k.ready;
      };
      holds = λ a g s ag.
          let now : Agrees o N a = record { reads = ag.reads; loads = ag.loads } in
          let k : Holds blocks f g = h.was.holds a g s (h.agrees a now) in
          record {
            spots = k.spots;
            places = under g k.places (h.gives a g s now);
            stores = k.stores;
            exit =
                k.exit;
            fired = h.there a g s now;
          };
      marks = λ a g s ag m mk.
          let now : Agrees o N a = record { reads = ag.reads; loads = ag.loads } in
          let k : MarksAgree f g m = h.was.marks a g s (h.agrees a now) m mk in
          agree g m k (λ n. marked f x a g s (h.was.holds a g s (h.agrees a now)).spots m mk k.spots (h.ready n));
      once = record {
        spots = λ q e. let c = h.was.once.spots q e in (
          c.0,
          c.1,
          still_sent f F R Q V L h.fired h.reads h.loads c.0 c.2,
          same c.0 c.2 ∙ c.3,
        );
        places = λ q e. present q e;
      };
      whole = λ e. absurd (true≢false (sym e ∙ h.runs));
    };
    block = refl;
    later = older_refl (after f o);
  }

  -- a node that sends its token leaves its frame right
  pub sends : (T : Answer) → Sends blocks o f F R Q V L x p T → Goes blocks o f (send x p T (moved f F R Q V L))
  sends None h = sends_with None h f.places h.was.sized.places f.marks
      (h.was.sized.spot_marks, h.was.sized.place_marks, h.was.sized.store_marks)
      (λ g m k l. record { spots = k.spots; places = k.places; stores = k.stores; exit = k.exit }) (λ g k l. k)
      (λ q e. still_sent f F R Q V L h.fired h.reads h.loads q (h.was.once.places q e)) (λ q e. refl)
  sends (Some t) h = sends_with (Some t) h (sent (slice_get (nodes_of f.code) x) f.places p t)
      (sent_size (slice_get (nodes_of f.code) x) f.places p t ∙ h.was.sized.places)
      (mark_sent p (mark_with f x) f.marks) (h.was.sized.spot_marks, marks_size, h.was.sized.store_marks) agree
      (λ g k l. sent_under (slice_get (nodes_of f.code) x) f.places p t (λ q. g (source f.code q)) k (l
      ∙ sym (ap g from.0)) (l ∙ sym (ap g from.1)))
      (λ q e. elim (sent_or (slice_get (nodes_of f.code) x) f.places p t q e) [
        | inl z ↦ elim z [
          | inl w ↦ subst (λ y. has_sent N y ≡ true) (sym w) now.0
          | inr w ↦ subst
              (λ y. has_sent N y ≡ true) (sym w) now.1
        ]
        | inr z ↦ still_sent f F R Q V L h.fired h.reads h.loads q (h.was.once.places q z)
      ])
      (λ q e. sent_other (slice_get (nodes_of f.code) x) f.places p t q
      (λ z. true≢false (sym e ∙ ap (has_sent f) z ∙ before.0))
      (λ z. true≢false (sym e ∙ ap (has_sent f) z ∙ before.1)))
    where
      there' : Some t ≢ None
      there' e = cc

      from : (source f.code p ≡ x) × (source f.code (suc p) ≡ x)
      from = h.from there'

      before : (has_sent f p ≡ false) × (has_sent f (suc p) ≡ false)
      before = h.before there'

      now : (has_sent N p ≡ true) × (has_sent N (suc p) ≡ true)
      now = h.now there'

      marks_size : length C ≡ 320
      marks_size = length-set (set f.marks.places p (mark_with f x)) (suc p) (mark_with f x)
          ∙ length-set f.marks.places p (mark_with f x) ∙ h.was.sized.place_marks

      -- the marks in the two places, and in the others
      placed : (m : ℕ → ℕ) → mark_with f x ≡ m x
          → ((q : ℕ) → at f.places q ≢ None → mark_on f.marks.places q ≡ m (source f.code q)) → (q : ℕ)
          → at (sent_places t) q ≢ None → mark_on C q ≡ m (source f.code q)
      placed m e k q n = elim (equal_or q (suc p)) [
        | inl z ↦ ap (mark_on C) z
            ∙ mark_here (set f.marks.places p (mark_with f x)) (suc p) (mark_with f x) (inside (suc p) z)
            ∙ e ∙ sym (ap m (ap (source f.code) z ∙ from.1))
        | inr y ↦ mark_other (set f.marks.places p (mark_with f x)) (suc p) q (mark_with f x) y
            ∙ elim (equal_or q p) [
              | inl z ↦ ap (mark_on (set f.marks.places p (mark_with f x))) z
                  ∙ mark_here f.marks.places p (mark_with f x) (old p z) ∙ e
                  ∙ sym (ap m (ap (source f.code) z ∙ from.0))
              | inr w ↦ mark_other f.marks.places p q (mark_with f x) w ∙ k q (λ z. n (sent_other
                  (slice_get (nodes_of f.code) x) f.places p t q w y ∙ z))
            ]
      ]
        where
          in_places : q < 320
          in_places =
              let a : q < length (sent_places t) = there_below (sent_places t) q n in
              let b : length (sent_places t) ≡ 320 = sent_size (slice_get (nodes_of f.code) x) f.places p t
              ∙ h.was.sized.places in
              omega arith

          old : (i : ℕ) → q ≡ i → i < length f.marks.places
          old i z = let a = in_places in let b : length f.marks.places ≡ 320 = h.was.sized.place_marks in
              omega (arith, a, z)

          inside : (i : ℕ) → q ≡ i → i < length (set f.marks.places p (mark_with f x))
          inside i z = let a = old i z in
              let b : length (set f.marks.places p (mark_with f x)) ≡ length f.marks.places =
              length-set f.marks.places p (mark_with f x) in omega (arith, a)

      agree : (g : ℕ → Answer) (m : ℕ → ℕ) → MarksAgree f g m → (Some t ≢ None → mark_with f x ≡ m x)
          → MarksAgree (record (moved f F R Q V L) {
            places = sent_places t;
            marks =
                mark_sent p (mark_with f x) f.marks;
          }) g m
      agree g m k e = record {
        spots = k.spots;
        places = placed m (e there') k.places;
        stores = k.stores;
        exit = k.exit;
      }

-- where the places of nodes are ------------------------------------------------------------------

-- the two places of a slot have the slot as their source
pub slot_source : (b : Block) (s : ℕ) → s < 128 → (source b (2 * s) ≡ slot_node b s)
    × (source b (suc (2 * s)) ≡ slot_node b s)
slot_source b s l =
    let lt : nat_lt (2 * s) 256 ≡ true = grind (arith, nat_tests) in
    let lt' : nat_lt (suc (2 * s)) 256 ≡ true = grind (arith, nat_tests) in
    let half : 2 * s / 2 ≡ s = omega arith in
    let half' : suc (2 * s) / 2 ≡ s = omega arith in (
      ap (λ c. cond c (slot_node b (2 * s / 2)) ((2 * s - 256) / 2)) lt ∙ ap (slot_node b) half,
      ap (λ c. cond c (slot_node b (suc (2 * s) / 2)) ((suc (2 * s) - 256) / 2)) lt' ∙ ap (slot_node b) half',
    )

-- the two places of a read have the read as their source
pub read_source : (b : Block) (r : ℕ) → (source b (256 + 2 * r) ≡ r) × (source b (suc (256 + 2 * r)) ≡ r)
read_source b r =
    let lt : nat_lt (256 + 2 * r) 256 ≡ false = grind (arith, nat_tests) in
    let lt' : nat_lt (suc (256 + 2 * r)) 256 ≡ false = grind (arith, nat_tests) in
    let half : (256 + 2 * r - 256) / 2 ≡ r = omega arith in
    let half' : (suc (256 + 2 * r) - 256) / 2 ≡ r = omega arith in (
      ap (λ c. cond c (slot_node b ((256 + 2 * r) / 2)) ((256 + 2 * r - 256) / 2)) lt ∙ half,
      ap (λ c. cond c (slot_node b (suc (256 + 2 * r) / 2)) ((suc (256 + 2 * r) - 256) / 2)) lt' ∙ half',
    )

-- the two places of a slot are sent where the slot has sent
pub slot_sends : (f : Frame) (s : ℕ) → s < 128 → (has_sent f (2 * s) ≡ slot_sent f s)
    × (has_sent f (suc (2 * s)) ≡ slot_sent f s)
slot_sends f s l =
    let lt : nat_lt (2 * s) 256 ≡ true = grind (arith, nat_tests) in
    let lt' : nat_lt (suc (2 * s)) 256 ≡ true = grind (arith, nat_tests) in
    let half : 2 * s / 2 ≡ s = omega arith in
    let half' : suc (2 * s) / 2 ≡ s = omega arith in (
      ap (λ c. cond c (slot_sent f (2 * s / 2)) (get_or f.reads ((2 * s - 256) / 2) false)) lt
          ∙ ap (slot_sent f) half,
      ap (λ c. cond c (slot_sent f (suc (2 * s) / 2)) (get_or f.reads ((suc (2 * s) - 256) / 2) false)) lt'
          ∙ ap (slot_sent f) half',
    )

-- the two places of a read are sent where the read is answered
pub read_sends : (f : Frame) (r : ℕ) → (has_sent f (256 + 2 * r) ≡ get_or f.reads r false)
    × (has_sent f (suc (256 + 2 * r)) ≡ get_or f.reads r false)
read_sends f r =
    let lt : nat_lt (256 + 2 * r) 256 ≡ false = grind (arith, nat_tests) in
    let lt' : nat_lt (suc (256 + 2 * r)) 256 ≡ false = grind (arith, nat_tests) in
    let half : (256 + 2 * r - 256) / 2 ≡ r = omega arith in
    let half' : (suc (256 + 2 * r) - 256) / 2 ≡ r = omega arith in (
      ap (λ c. cond c (slot_sent f ((256 + 2 * r) / 2)) (get_or f.reads ((256 + 2 * r - 256) / 2) false)) lt
          ∙ ap (λ k. get_or f.reads k false) half,
      ap (λ c. cond c (slot_sent f (suc (256 + 2 * r) / 2)) (get_or f.reads ((suc (256 + 2 * r) - 256) / 2) false))
          lt' ∙ ap (λ k. get_or f.reads k false) half',
    )

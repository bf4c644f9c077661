-- What a frame keeps as a slot fires, and who waits with a number then.
use Rattle.std.proofs.Common.{◌≡◌, ◌≢◌, ℕ, ◌*◌, ◌<◌, ◌⊎◌, inl, inr, true, false}
use Rattle.std.proofs.Common.{List, length, Option, Some, None, set, get_or, refl, sym, ap, ◌∙◌, subst, arith}
use Rattle.std.proofs.lemmas.Bool.{cases_eq, ne_eqb, or_cases}
use Rattle.trips_isa.specs.declared.block.Inst.{Inst}
use Rattle.trips_isa.specs.declared.block.Block.{Block}
use Rattle.trips_isa.specs.declared.form.Form.{Form}
use Rattle.trips_isa.specs.declared.form.Form.TheVariants as form
use Rattle.trips_isa.specs.Forms.{form_of, is_load, is_store}
use Rattle.trips_isa.specs.Rule.{Answer}
use Rattle.block_cases.specs.Orders.{slot_of}
use Rattle.commit_flush_spec.specs.Frames.{Frame, at, slot_node}
use Rattle.commit_flush_spec.specs.Sending.{send, token_with}
use Rattle.commit_flush_spec.specs.Older.{Older}
use Rattle.commit_flush_spec.specs.Dataflow.{fire, fire_inst, fire_form}
use Rattle.commit_flush_spec.specs.inside.Invariant.{FrameOk, Asked}
use Rattle.commit_flush_spec.specs.inside.Laws.{NoneLost}
use Rattle.commit_flush_spec.proofs.Lists.{other_at, set_here, flag_keeps}
use Rattle.commit_flush_spec.specs.inside.Observers.{has_number}
use Rattle.grid_cycle_spec.specs.inside.Arrivals.{is_waiting}

-- what waits after slot s has fired: the same, or slot s with the number of a load or a store
abbrev RequestsAfter : Frame → Frame → ℕ → Inst → Type 0
RequestsAfter e E s i = (E.requests ≡ e.requests) ⊎ (E.requests ≡ set e.requests i.number (Some s))

-- what stays of a frame as slot s fires
pub record Fires (e E : Frame) (s : ℕ) (i : Inst) : Type 0 where
  pub number : E.number ≡ e.number
  pub code : E.code ≡ e.code
  pub spots : E.spots ≡ e.spots
  pub stores : E.stores ≡ e.stores
  pub loads : E.loads ≡ e.loads
  pub exit : E.exit ≡ e.exit
  pub reads : E.reads ≡ e.reads
  pub sealed : E.sealed ≡ e.sealed
  pub fired : E.fired ≡ set e.fired s true
  pub requests : RequestsAfter e E s i

fires_form : (k : Form) (i : Inst) (s : ℕ) (e : Frame)
    → Fires e (fire_form k i s (record e { fired = set e.fired s true })) s i
fires_form k i s e = by k
  where
    sends : (t : Answer) → Fires e (send (slot_node e.code s) (2 * s) t (record e { fired = set e.fired s true })) s i
    sends None = record {
      number = refl;
      code = refl;
      spots = refl;
      stores = refl;
      loads = refl;
      exit = refl;
      reads = refl;
      sealed = refl;
      fired = refl;
      requests = inl refl;
    }
    sends (Some t) = record {
      number = refl;
      code = refl;
      spots = refl;
      stores = refl;
      loads = refl;
      exit = refl;
      reads = refl;
      sealed = refl;
      fired = refl;
      requests = inl refl;
    }

    waits : Fires e (record e { fired = set e.fired s true; requests = set e.requests i.number (Some s) }) s i
    waits = record {
      number = refl;
      code = refl;
      spots = refl;
      stores = refl;
      loads = refl;
      exit = refl;
      reads = refl;
      sealed = refl;
      fired = refl;
      requests = inr refl;
    }

    leaves : Fires e (record e { fired = set e.fired s true; leaving = Some s }) s i
    leaves = record {
      number = refl;
      code = refl;
      spots = refl;
      stores = refl;
      loads = refl;
      exit = refl;
      reads = refl;
      sealed = refl;
      fired = refl;
      requests = inl refl;
    }

    by : (k : Form) → Fires e (fire_form k i s (record e { fired = set e.fired s true })) s i
    by form.Load = waits
    by form.Store = waits
    by form.Branch = leaves
    by form.General = sends (token_with (record e { fired = set e.fired s true }) (slot_node e.code s) 0)
    by form.Immediate = sends (token_with (record e { fired = set e.fired s true }) (slot_node e.code s) 0)
    by form.Constant = sends (token_with (record e { fired = set e.fired s true }) (slot_node e.code s) 0)

-- a frame whose slot fires keeps all but what firing changes
pub fires_slot : (s : ℕ) (o : Older) (e : Frame) (i : Inst) → slot_of e.code s ≡ Some i → Fires e (fire s o e) s i
fires_slot s o e i z =
    subst (λ q. Fires e (fire_inst q s (record e { fired = set e.fired s true })) s i) (sym z)
    (fires_form (form_of i.op) i s e)

-- no other slot that waits loses its number
module _ (blocks : List Block) (o p : Older) (e E : Frame) (s : ℕ) (i : Inst) (fires : Fires e E s i)
    (ok : FrameOk blocks o e) (lost : NoneLost E) (small : i.number < 32)
    (unresolved : (n s : ℕ) → at e.requests n ≡ Some s → at e.stores n ≡ None)
    (numbered : (n s : ℕ) → at e.requests n ≡ Some s → (i : Inst) → slot_of e.code s ≡ Some i
    → has_number (form_of i.op) ≡ true) where
  clash : E.requests ≡ set e.requests i.number (Some s) → (y : ℕ) → y ≢ s → at e.requests i.number ≡ Some y → ⊥
  clash r y n w = by (or_cases (is_load (form_of (a.inst).op)) (is_store (form_of (a.inst).op))
      (numbered i.number y w a.inst a.is_inst))
    where
      a : Asked e i.number y
      a = ok.asked i.number y w

      now : at E.requests i.number ≡ Some s
      now = ap (λ q. at q i.number) r
          ∙ set_here e.requests i.number (Some s) (let z : length e.requests ≡ 32 = ok.sized.requests in
          omega (arith, z, small))

      still : get_or E.fired y false ≡ true
      still = ap (λ q. get_or q y false) fires.fired ∙ flag_keeps e.fired s y a.fired

      slot : slot_of E.code y ≡ Some a.inst
      slot = ap (λ b. slot_of b y) fires.code ∙ a.is_inst

      not_two : at E.requests (a.inst).number ≡ Some y → ⊥
      not_two z =
          let q : Some y ≡ Some s = sym z ∙ ap (at E.requests) a.number ∙ now in
          n (let it : y ≡ s = cc in it)

      by : (is_load (form_of (a.inst).op) ≡ true) ⊎ (is_store (form_of (a.inst).op) ≡ true) → ⊥
      by (inl l) = elim (lost.loads y a.inst slot l still) [
        | inl z ↦ z (ap (λ q. at q (a.inst).number) fires.loads ∙ ap (at e.loads) a.number ∙ a.open_load l)
        | inr z ↦ not_two z
      ]
      by (inr l) = elim (lost.stores y a.inst slot l still) [
        | inl z ↦ z (ap (λ q. at q (a.inst).number) fires.stores ∙ ap (at e.stores) a.number
            ∙ unresolved i.number y w)
        | inr z ↦ not_two z
      ]

  -- who waits, other than slot s, waits still, and nobody else
  pub others_wait : (y : ℕ) → y ≢ s → (n : ℕ)
      → is_waiting (at E.requests n) y ≡ is_waiting (at e.requests n) y
  others_wait y other n = by fires.requests
    where
      not_now : E.requests ≡ set e.requests i.number (Some s) → (q : Option ℕ) → at e.requests i.number ≡ q
          → false ≡ is_waiting q y
      not_now r None z = refl
      not_now r (Some x) z = sym (ne_eqb x y (λ w. clash r y other (z ∙ ap Some w)))

      number : E.requests ≡ set e.requests i.number (Some s) → (n ≡ i.number) ⊎ (n ≡ i.number → ⊥)
          → is_waiting (at E.requests n) y ≡ is_waiting (at e.requests n) y
      number r (inr m) = ap (λ q. is_waiting q y) (ap (λ q. at q n) r ∙ other_at e.requests i.number n (Some s) m)
      number r (inl m) =
          ap (λ n. is_waiting (at E.requests n) y) m
          ∙ ap (λ q. is_waiting q y) (ap (λ q. at q i.number) r
          ∙ set_here e.requests i.number (Some s) (let z : length e.requests ≡ 32 = ok.sized.requests in
          omega (arith, z, small)))
          ∙ ne_eqb s y (λ w. other (sym w))
          ∙ not_now r (at e.requests i.number) refl
          ∙ sym (ap (λ n. is_waiting (at e.requests n) y) m)

      by : (E.requests ≡ e.requests) ⊎ (E.requests ≡ set e.requests i.number (Some s))
          → is_waiting (at E.requests n) y ≡ is_waiting (at e.requests n) y
      by (inl r) = ap (λ q. is_waiting (at q n) y) r
      by (inr r) = number r (cases_eq n i.number)

-- Marks where none is set: nothing has to be written, and nothing has to be looked for.
use Rattle.std.proofs.Common.{◌≡◌, ℕ, zero, suc, ◌+◌, ◌-◌, Bool, true, false, cond, ◌&&◌, nat_eq}
use Rattle.std.proofs.Common.{nat_lt, List, [], ◌∷◌}
use Rattle.std.proofs.Common.{Some, None, get_or, set, replicate, refl, sym, ap, ap₂, ◌∙◌}
use Rattle.trips_isa.specs.declared.block.Inst.{Inst}
use Rattle.trips_isa.specs.declared.block.Block.{Block}
use Rattle.trips_isa.specs.declared.form.Form.{Form}
use Rattle.trips_isa.specs.declared.form.Form.TheVariants.{General, Immediate, Load, Store, Branch, Constant}
use Rattle.trips_isa.specs.declared.operands.Operands.{Operands}
use Rattle.trips_isa.specs.declared.operands.Operands.TheVariants.{Missing, Nulls, Words}
use Rattle.trips_isa.specs.Forms.{form_of, role_of, takes_left, takes_right}
use Rattle.trips_isa.specs.Operands.{operands, is_guarded}
use Rattle.trips_isa.specs.Rule.{Answer}
use Rattle.trips_isa.specs.Places.{inst_node}
use Rattle.trips_isa.specs.Faults.{divides, fault_in, own_fault}
use Rattle.trips_isa.specs.Marks.{least, least_at, mark_by, node_mark, owed}
use Rattle.commit_flush_spec.specs.Marks.{Marks, mark_on, mark_held, mark_sent, mark_delivered, mark_stored}
use Rattle.commit_flush_spec.specs.Marks.{mark_left}
use Rattle.commit_flush_spec.specs.Marks.{zeros}
use Rattle.commit_flush_spec.specs.Frames.{at}
use Rattle.commit_flush_spec.specs.Ends.{cause_held}
use Rattle.frame_state.specs.inside.Faulting.{can_fault, can_fault_in}
use Rattle.frame_state.specs.inside.Held.{Held, sealed}
use Rattle.frame_state.specs.inside.MarkRows.{AreBare, HasNoMark}
use Rattle.frame_state.specs.inside.Moves.{slot_mark, slot_token}

-- rows -------------------------------------------------------------------------------------------

pub zeros_bare : (n q : ℕ) → mark_on (zeros n) q ≡ 0
unfolding zeros
zeros_bare n q = go n q
  where
    go : (k j : ℕ) → ◌≡◌ {A = ℕ} (get_or (replicate k 0) j 0) 0
    go zero j = refl
    go (suc k) zero = refl
    go (suc k) (suc j) = go k j

-- rows of zeros and an exit of zero have no mark
pub none_bare : AreBare (zeros 416) (zeros 320) (zeros 32) 0
none_bare = record {
  at_spots = zeros_bare 416;
  at_places = zeros_bare 320;
  at_stores = zeros_bare 32;
  at_exit = refl;
}

-- a mark that is 0 need not be set to 0
stays_zero : (xs : List ℕ) (q : ℕ) → mark_on xs q ≡ 0 → set xs q 0 ≡ xs
stays_zero [] q e = refl
stays_zero (x ∷ xs) zero e = ap (λ y. y ∷ xs) (sym e)
stays_zero (x ∷ xs) (suc q) e = ap (λ ys. x ∷ ys) (stays_zero xs q e)

-- tables -----------------------------------------------------------------------------------------

-- to send a token without a mark changes nothing where no mark is set
pub sent_bare : (m : Marks) (p c : ℕ) → HasNoMark m → c ≡ 0 → m ≡ mark_sent p c m
sent_bare m p c h e =
    let first : set m.places p c ≡ m.places = ap (set m.places p) e ∙ stays_zero m.places p (h.at_places p) in
    let both : set (set m.places p c) (suc p) c ≡ m.places =
    ap (λ xs. set xs (suc p) c) first ∙ ap (set m.places (suc p)) e
    ∙ stays_zero m.places (suc p) (h.at_places (suc p)) in
    λ k. record m { places = sym both k }

-- to deliver a mark changes nothing where no mark is set
pub delivered_bare : (m : Marks) (p q : ℕ) → HasNoMark m → m ≡ mark_delivered p q m
delivered_bare m p q h =
    let same : set m.spots q (mark_on m.places p) ≡ m.spots =
    ap (set m.spots q) (h.at_places p) ∙ stays_zero m.spots q (h.at_spots q) in
    λ k. record m { spots = sym same k }

-- to resolve a store without a mark changes nothing where no mark is set
pub stored_bare : (m : Marks) (n c : ℕ) → HasNoMark m → c ≡ 0 → m ≡ mark_stored n c m
stored_bare m n c h e =
    let same : set m.stores n c ≡ m.stores = ap (set m.stores n) e ∙ stays_zero m.stores n (h.at_stores n) in
    λ k. record m { stores = sym same k }

pub left_bare : (m : Marks) (c : ℕ) → HasNoMark m → c ≡ 0 → m ≡ mark_left c m
left_bare m c h e = λ k. record m { exit = sym (e ∙ sym h.at_exit) k }

-- what a slot gives ------------------------------------------------------------------------------

no_own : (i : Inst) (l r : ℕ) → can_fault i.op ≡ false → own_fault (Some i) l r ≡ 0
no_own i l r e = go (form_of i.op) e
  where
    undivided : (v w : Bool) → v ≡ false → cond {A = ℕ} (v && w) 1 0 ≡ 0
    undivided true w k = absurd (cc)
    undivided false true k = refl
    undivided false false k = refl

    go : (t : Form) → can_fault_in t i.op ≡ false → fault_in t i l r ≡ 0
    go General k = undivided (divides i.op) (nat_eq r 0) k
    go Immediate k = refl
    go Constant k = refl
    go Branch k = refl
    go Load k = absurd (cc)
    go Store k = absurd (cc)

nought : (v : Bool) (x : ℕ) → x ≡ 0 → cond v x 0 ≡ 0
nought true x e = e
nought false x e = refl

bare_by : (own : ℕ → ℕ → ℕ) (o : Operands) (a b p : ℕ) → ((l r : ℕ) → own l r ≡ 0) → a ≡ 0 → b ≡ 0 → p ≡ 0
    → mark_by own o a b p ≡ 0
bare_by own Missing a b p h ea eb ep = refl
bare_by own (Nulls x y) a b p h ea eb ep = ap₂ least ep (ap₂ least (nought x a ea) (nought y b eb))
bare_by own (Words l r) a b p h ea eb ep = ap₂ least ep (ap₂ least ea (ap₂ least eb (h l r)))

-- where no mark is set, what cannot fault gives none
pub no_mark : (h : Held) (i : Inst) (s : ℕ) → HasNoMark h.marks → can_fault i.op ≡ false → 0 ≡ slot_mark h i s
no_mark h i s bare e = sym (go (slot_token h i s 0))
  where
    go : (t : Answer) → node_mark (Some (inst_node s (Some i))) (own_fault (Some i)) (at h.spots)
        (mark_on h.marks.spots) t ≡ 0
    go None = refl
    go (Some t) = bare_by (own_fault (Some i)) (operands (role_of i.op) (at h.spots s) (at h.spots (128 + s)))
        _ _ _ (λ l r. no_own i l r e)
        (nought (takes_left (role_of i.op)) (mark_on h.marks.spots s) (bare.at_spots s))
        (nought (takes_right (role_of i.op)) (mark_on h.marks.spots (128 + s)) (bare.at_spots (128 + s)))
        (nought (is_guarded i.sense) (mark_on h.marks.spots (256 + s)) (bare.at_spots (256 + s)))

-- what a frame owes ------------------------------------------------------------------------------

held_bare : (m : Marks) (q : ℕ) → HasNoMark m → mark_held m q ≡ 0
held_bare m q h = go (nat_lt q 416) (nat_lt q 448)
  where
    go : (a b : Bool) → cond a (mark_on m.spots q) (cond b (mark_on m.stores (q - 416)) m.exit) ≡ 0
    go true b = h.at_spots q
    go false true = h.at_stores (q - 416)
    go false false = h.at_exit

least_none : (f : ℕ → ℕ) (qs : List ℕ) → ((q : ℕ) → f q ≡ 0) → least_at f qs ≡ 0
least_none f [] h = refl
least_none f (q ∷ qs) h = ap₂ least (h q) (least_none f qs h)

-- where no mark is set, no output has one
pub no_cause : (b : Block) (h : Held) → HasNoMark h.marks → 0 ≡ cause_held (sealed b h)
no_cause b h bare = sym (least_none (mark_held h.marks) (owed b) (λ q. held_bare h.marks q bare))

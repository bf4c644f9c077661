-- What is stored: a scalar's variable, or an element in byte memory.
use Rattle.std.proofs.Common.{◌≡◌, ◌≢◌, ℕ, zero, suc, ◌+◌, ◌-◌, ◌*◌, ◌%◌, ◌^◌, ◌<◌, ◌≤◌, Bool, true}
use Rattle.std.proofs.Common.{false, cond, List, [], ◌∷◌, map, length, Option, Some, None, refl}
use Rattle.std.proofs.Common.{sym, ap, ◌∙◌, subst, arith}
use Rattle.std.specs.Prelude.{slice_get, nat_eq}
use Rattle.std.proofs.lemmas.Bool.Decides.{nat_tests}
use Rattle.c_tree.specs.declared.Kind.{Kind}
use Rattle.c_tree.specs.declared.Slot.TheVariants as slot
use Rattle.c_tree.specs.declared.TypedProgram.{TypedProgram}
use Rattle.c_meaning_spec.specs.declared.signal.Signal.{Signal}
use Rattle.c_meaning_spec.specs.declared.signal.Signal.TheVariants.{Nothing, Value}
use Rattle.c_meaning_spec.specs.declared.signal.Object.{Object}
use Rattle.c_meaning_spec.specs.declared.signal.Object.TheVariants.{InScalar, InArray}
use Rattle.c_meaning_spec.specs.State.{Result, Go, Over, cell, held, written, store, store_in}
use Rattle.c_meaning_spec.specs.inside.State.{then}
use Rattle.c_meaning_spec.specs.State as eval
use Rattle.c_constant.specs.Kinds.{bytes}
use Rattle.trips_isa.specs.Stores.{data_size}
use Rattle.ir_forms.specs.declared.flat.Arg.{Arg}
use Rattle.ir_forms.specs.declared.flat.Arg.TheVariants.{Const, Var}
use Rattle.ir_forms.specs.inside.FlatCode.{Code, Then, only, Save, Function}
use Rattle.ir_forms.specs.inside.Cells as cells
use Rattle.ir_forms.specs.inside.FlatSteps.{State, read, settle, with_var, with_memory}
use Rattle.ir_forms.specs.inside.FlatRuns.{checked}
use Rattle.ir_forms.proofs.Leads.{Leads}
use Rattle.ir_forms.proofs.Steps.{both_lead}
use Rattle.ir_forms.proofs.Statements.{save_leads}
use Rattle.c_constant.specs.Kinds.{IsWord}
use Rattle.flat_lower.specs.inside.Operations.{temp, save_op}
use Rattle.flat_lower.proofs.Straight.{put_at, put_other, Sets, Puts}
use Rattle.flat_lower.proofs.Bytes.{save_is}
use Rattle.flat_lower.proofs.Objects.{element_at, put_element, laid_at, element_in, good_element}
use Rattle.flat_lower.proofs.Objects.{all_at}
use Rattle.flat_lower.proofs.Related.{Scene, IsScene, frames_from, ObjectIs, Related, unseen}
use Rattle.flat_lower.proofs.Related.{scalar_set, row_of, element_within, element_saved}
use Rattle.flat_lower.proofs.Values.{KeptIs, functions, base, run}

module _ (P : TypedProgram) (most : ℕ) (S : Scene) (y : IsScene P S) where
  -- a scalar whose variable was set, whatever spare variable was used
  pub scalar_sets : (s : eval.State) (f g : State) (i spare w : ℕ) (k : Kind) (c : Option ℕ)
      → slice_get S.func.scalars i ≡ Some (slot.Scalar k) → slice_get s.scalars i ≡ Some c
      → IsWord k w → 64 ≤ spare → Sets i spare w f g → Related S s f
      → Related S (written s (InScalar i) (Some w)) g
  scalar_sets s f g i spare w k c e h fits ls t r =
      unseen S y (written s (InScalar i) (Some w)) (with_var f i w) g
      (λ j lt. same j lt (nat_eq j i) refl) t.memory t.input t.output
      (scalar_set S y s f i w k c e h fits r)
    where
      same : (j : ℕ) → j < 64 → (b : Bool) → nat_eq j i ≡ b → g.vars j ≡ (with_var f i w).vars j
      same j lt true q =
          let e : j ≡ i = grind (arith, nat_tests) in
          ap g.vars e ∙ t.value ∙ sym (put_at f.vars i (Some w)) ∙ ap (with_var f i w).vars (sym e)
      same j lt false q =
          let n : j ≢ i = grind (arith, nat_tests) in
          t.others j n (λ e. omega arith) ∙ sym (put_other f.vars i (Some w) j n)

  -- an element can be saved where it is there
  pub element_saves : (k : Kind) (n w at new : ℕ) (c : Option ℕ) (s : eval.State) (f : State)
      (o : ObjectIs S.objects n k) → cell s (InArray n w) ≡ Some c → Related S s f
      → at ≡ element_at o.it w → cells.save checked (save_op k) f.memory at new
      ≡ Some (put_element o.it f.memory w new)
  element_saves k n w at new c s f o h r ea =
      let x = row_of s n w c h in
      let lt = element_within S s f n w c k o h r in
      let st = laid_at 0 (frames_from P + S.env.used) S.objects n o.it y.laid o.found in
      let last = element_in o.it.kind o.it.at o.it.length w lt in
      let below = st.below in
      let room = y.room in
      let good = good_element o.it.kind o.it.at w st.aligned (omega arith) in
      let opens = (all_at S.objects s.arrays f.memory n o.it x.row r.stored o.found x.found).opens w lt in
      ap (λ a. cells.save checked (save_op k) f.memory a new) ea
      ∙ ap (λ k. cells.save checked (save_op k) f.memory (element_at o.it w) new) (sym o.kind)
      ∙ save_is o.it.kind f.memory (element_at o.it w) new good opens

  -- a run of code that comes to a state
  pub record Reaches (a : Code) (f : State) (n : ℕ) (g : State) : Type 0 where
    pub t : ℕ
    pub few : t ≤ n
    pub leads : Leads (run P most S y a f) t (settle g)

  -- code that puts a word into a variable reaches the state with it
  pub put_reaches : (a : Code) (f : State) (m x spare w : ℕ)
      (p : Puts (functions P most) (base P most) S.env a f m x spare w) → Reaches a f m p.to
  put_reaches a f m x spare w p = record { t = p.t; few = p.few; leads = p.leads }

  -- two codes in a row reach what the second does
  pub both_reach : (a b : Code) (f g h : State) (m n : ℕ) → Reaches a f m g → Reaches b g n h
      → Reaches (Then a b) f (m + n) h
  both_reach a b f g h m n p q =
      let x = p.few in
      let z = q.few in
      record {
        t = p.t + q.t;
        few = omega arith;
        leads = both_lead checked (functions P most) (base P most) S.env a b f g p.t q.t
            (settle h) p.leads q.leads;
      }

  -- a save of a variable's word
  pub save_reaches : (k : Kind) (a : Arg) (v at new : ℕ) (f : State) (m : cells.Memory)
      → read checked f a ≡ Some at → read checked f (Var v) ≡ Some new
      → cells.save checked (save_op k) f.memory at new ≡ Some m
      → Reaches (only (Save (save_op k) a (Var v))) f 1 (with_memory f m)
  save_reaches k a v at new f m ha hv hs = record {
    t = 1;
    few = omega arith;
    leads = save_leads checked (functions P most) (base P most) S.env (save_op k) a
        (Var v) f at new m ha hv hs;
  }

-- what a store comes to, where its object is there
pub store_is : (s : eval.State) (x : Object) (c : Option ℕ) (w : ℕ) → cell s x ≡ Some c
    → store s x w ≡ Go (Value w) (written s x (Some w))
store_is s x c w h = ap (λ c. store_in c s x w) h

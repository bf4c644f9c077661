-- Where the guard is met, the nodes of an if, and of any items, do what these do.
use Rattle.std.proofs.Common.{◌≡◌, ℕ, List, [], ◌++◌, refl, sym, ap, ◌∙◌, Bool, true, false}
use Rattle.std.specs.Prelude.{Option, Some}
use Rattle.trips_isa.specs.declared.block.Token.TheVariants.{Word}
use Rattle.trips_isa.specs.declared.block.Stored.{Stored}
use Rattle.trips_isa.specs.Rule.{Answer, low}
use Rattle.ir_forms.specs.declared.hyper.Source.{Source}
use Rattle.trips_isa.specs.inside.Acts.{Act}
use Rattle.ir_forms.specs.inside.HyperRuns.{value_of, Machine, after_items, acts, pick}
use Rattle.ir_forms.specs.inside.FlowRuns.{Computes, met, fired}
use Rattle.predication.specs.inside.Environments.{Scope, Env, Bits, under, no_bits, left_bits, member, distinct}
use Rattle.predication.specs.inside.Operands.{tested}
use Rattle.predication.specs.inside.Ifs.{items, touched}
use Rattle.ir_forms.specs.inside.HyperCode.{Items, Done, Set, Load, Save, If}
use Rattle.ir_forms.specs.inside.HyperFits.{FitsSource, FitsItems}
use Rattle.predication.proofs.Tables.{Clear, Live, live_sparse, Runs}
use Rattle.predication.proofs.TakenLegs.{untouched, join_quiet, join_yea, join_nay, join_calm}
use Rattle.predication.proofs.EmittedIfs.{legs_at, test_at, yea_out, nay_at, nay_out, join_at, joined, rest_at}
use Rattle.predication.proofs.EmittedIfs.{rest_out, tested_quiet, fired_if}
use Rattle.predication.proofs.Untaken.{word_clear, absent_none, tested_calm, Off, off_items, Parts, parts_of, calm_if}
use Rattle.predication.proofs.Operands.{Meant}
use Rattle.predication.proofs.BitLemmas.{none_among}
use Rattle.predication.proofs.Taken.{nonzero, pick_yea, pick_nay, BitsAre, On, no_bit, bits_behind, tested_decides}
use Rattle.predication.proofs.Taken.{test_met}
use Rattle.predication.proofs.TakenNodes.{on_set, on_load, on_save}

module _ (regs : ℕ → ℕ) (h : ℕ → Answer) (f : Computes) (st : ℕ → Option Stored) (mem : List ℕ) where
  if_acts :
      (g : Scope) (j m : ℕ) (env : Env) (bits : Bits) (t : Source) (yea nay rest : Items) (a b c : List Act)
      → fired regs h (yea_out g j m env bits t yea).nodes ≡ a → fired regs h (nay_out g j m env bits t yea nay).nodes
      ≡ b → fired regs h (rest_out g j m env bits t yea nay rest).nodes ≡ c
      → fired regs h (items g j m env bits (If t yea nay rest)).nodes ≡ a ++ (b ++ c)
  if_acts g j m env bits t yea nay rest a b c ea eb ec =
      let q2 = join_quiet (distinct (touched yea ++ touched nay)) (test_at g j env bits t)
      (join_at g j m env bits t yea nay) env (yea_out g j m env bits t yea).env
      (nay_out g j m env bits t yea nay).env (touched yea) (touched nay) in
      fired_if regs h (tested g j env bits t).nodes (yea_out g j m env bits t yea).nodes
      (nay_out g j m env bits t yea nay).nodes (joined g j m env bits t yea nay).nodes
      (rest_out g j m env bits t yea nay rest).nodes
      (tested_quiet g j env bits t) q2 ∙ rw (ea, eb, ec) refl

  -- the rest of an if after the leg that was taken
  abbrev Rest : Scope → ℕ → ℕ → Env → Bits → Source → Items → Items → Items → Type 0
  Rest g j m env bits t yea nay rest =
      (s2 : Machine) → Live regs h (joined g j m env bits t yea nay).env s2.registers
      → BitsAre regs h f st mem (left_bits bits (touched yea ++ touched nay)) s2.registers
      → On regs h f st mem g (rest_at g j m env bits t yea nay) (nay_out g j m env bits t yea nay).number
      (joined g j m env bits t yea nay).env (left_bits bits (touched yea ++ touched nay)) rest s2

  on_yea :
      (g : Scope) (j m : ℕ) (env : Env) (bits : Bits) (t : Source) (yea nay rest : Items) (s : Machine) (w : ℕ)
      → Clear regs h g → Live regs h env s.registers → BitsAre regs h f st mem bits s.registers
      → Parts regs h f st mem g j m env bits t yea nay rest
      → h (test_at g j env bits t) ≡ Some (Word w) → low w ≡ true
      → (Meant regs h f st mem → low w ≡ nonzero (value_of s.registers t))
      → On regs h f st mem (under (test_at g j env bits t) true) (legs_at g j env bits t) m env no_bits yea s
      → Off regs h f st mem (under (test_at g j env bits t) false) (nay_at g j m env bits t yea)
      (yea_out g j m env bits t yea).number env no_bits nay
      → Rest g j m env bits t yea nay rest → On regs h f st mem g j m env bits (If t yea nay rest) s
  on_yea g j m env bits t yea nay rest s w cl l bs p e od wm y n ir =
      let k = test_at g j env bits t in
      let ms = test_met regs h f st mem k w true e od in
      let cy = word_clear regs h k w true e in
      let cn = word_clear regs h k w false e in
      let yo = yea_out g j m env bits t yea in
      let no' = nay_out g j m env bits t yea nay in
      let ja = join_at g j m env bits t yea nay in
      let sp = live_sparse regs h env s.registers l in
      let live2 = join_yea regs h f st k ja env yo.env no'.env (touched yea)
      (touched nay) y.after.registers cy cn ms.0 ms.1 y.live
      (untouched yea (under k true) (legs_at g j env bits t) m env no_bits) n.dead p.joined_runs in
      let rs = touched yea ++ touched nay in
      let same : (q : ℕ) → member q rs ≡ false → y.after.registers q ≡ s.registers q =
      λ q z. y.kept q (none_among q (touched yea) (touched nay) z).0 in
      let r = ir y.after live2 (bits_behind regs h f st mem bits s.registers y.after.registers rs same bs) in
      let v = value_of s.registers t in
      record {
        after = r.after;
        live = r.live;
        calm = calm_if regs h f st mem (tested g j env bits t).nodes yo.nodes no'.nodes
            (joined g j m env bits t yea nay).nodes (rest_out g j m env bits t yea nay rest).nodes
            (tested_calm regs h f st mem g j env bits t cl sp p.test_runs) y.calm n.calm
            (join_calm regs h f st (distinct (touched yea ++ touched nay)) k ja env yo.env no'.env (touched yea)
            (touched nay) cy cn sp p.joined_runs) r.calm;
        bit = r.bit;
        kept = λ q z. let u = none_among q rs (touched rest) z in r.kept q u.1 ∙ same q u.0;
        means = λ mt ws mm.
            let zy = y.means mt ws mm in
            let zr = r.means mt zy.words (n.memory y.after.memory zy.memory) in
            let od2 : nonzero v ≡ true = sym (wm mt) ∙ od in
            let e1 : pick v (after_items yea s) (after_items nay s) ≡ after_items yea s =
            pick_yea v (after_items yea s) (after_items nay s) od2 in
            let e2 : pick v (acts yea s) (acts nay s) ≡ acts yea s = pick_yea v (acts yea s) (acts nay s) od2 in
            let e3 : y.after ≡ pick v (after_items yea s) (after_items nay s) = zy.same ∙ sym e1 in
            record {
              same = zr.same ∙ ap (after_items rest) e3;
              memory = zr.memory;
              acts = if_acts g j m env bits t yea nay rest (acts yea s) [] (acts rest y.after) zy.acts n.acts zr.acts
                  ∙ ap (λ (a : List Act). a ++ acts rest y.after) (sym e2)
                  ∙ ap (λ (z : Machine). pick v (acts yea s) (acts nay s) ++ acts rest z) e3;
              words = zr.words;
            };
      }

  on_nay :
      (g : Scope) (j m : ℕ) (env : Env) (bits : Bits) (t : Source) (yea nay rest : Items) (s : Machine) (w : ℕ)
      → Clear regs h g → Live regs h env s.registers → BitsAre regs h f st mem bits s.registers
      → Parts regs h f st mem g j m env bits t yea nay rest
      → h (test_at g j env bits t) ≡ Some (Word w) → low w ≡ false
      → (Meant regs h f st mem → low w ≡ nonzero (value_of s.registers t))
      → Off regs h f st mem (under (test_at g j env bits t) true) (legs_at g j env bits t) m env no_bits yea
      → On regs h f st mem (under (test_at g j env bits t) false) (nay_at g j m env bits t yea)
      (yea_out g j m env bits t yea).number env no_bits nay s
      → Rest g j m env bits t yea nay rest → On regs h f st mem g j m env bits (If t yea nay rest) s
  on_nay g j m env bits t yea nay rest s w cl l bs p e od wm y n ir =
      let k = test_at g j env bits t in
      let ms = test_met regs h f st mem k w false e od in
      let cy = word_clear regs h k w true e in
      let cn = word_clear regs h k w false e in
      let yo = yea_out g j m env bits t yea in
      let no' = nay_out g j m env bits t yea nay in
      let ja = join_at g j m env bits t yea nay in
      let sp = live_sparse regs h env s.registers l in
      let live2 = join_nay regs h f st k ja env yo.env no'.env (touched yea)
      (touched nay) n.after.registers cy cn ms.0 ms.1 n.live
      (untouched nay (under k false) (nay_at g j m env bits t yea) yo.number env no_bits) y.dead p.joined_runs in
      let rs = touched yea ++ touched nay in
      let same : (q : ℕ) → member q rs ≡ false → n.after.registers q ≡ s.registers q =
      λ q z. n.kept q (none_among q (touched yea) (touched nay) z).1 in
      let r = ir n.after live2 (bits_behind regs h f st mem bits s.registers n.after.registers rs same bs) in
      let v = value_of s.registers t in
      record {
        after = r.after;
        live = r.live;
        calm = calm_if regs h f st mem (tested g j env bits t).nodes yo.nodes no'.nodes
            (joined g j m env bits t yea nay).nodes (rest_out g j m env bits t yea nay rest).nodes
            (tested_calm regs h f st mem g j env bits t cl sp p.test_runs) y.calm n.calm
            (join_calm regs h f st (distinct (touched yea ++ touched nay)) k ja env yo.env no'.env (touched yea)
            (touched nay) cy cn sp p.joined_runs) r.calm;
        bit = r.bit;
        kept = λ q z. let u = none_among q rs (touched rest) z in r.kept q u.1 ∙ same q u.0;
        means = λ mt ws mm.
            let zn = n.means mt ws (y.memory s.memory mm) in
            let zr = r.means mt zn.words zn.memory in
            let od2 : nonzero v ≡ false = sym (wm mt) ∙ od in
            let e1 : pick v (after_items yea s) (after_items nay s) ≡ after_items nay s =
            pick_nay v (after_items yea s) (after_items nay s) od2 in
            let e2 : pick v (acts yea s) (acts nay s) ≡ acts nay s = pick_nay v (acts yea s) (acts nay s) od2 in
            let e3 : n.after ≡ pick v (after_items yea s) (after_items nay s) = zn.same ∙ sym e1 in
            record {
              same = zr.same ∙ ap (after_items rest) e3;
              memory = zr.memory;
              acts = if_acts g j m env bits t yea nay rest [] (acts nay s) (acts rest n.after) y.acts zn.acts zr.acts
                  ∙ ap (λ (a : List Act). a ++ acts rest n.after) (sym e2)
                  ∙ ap (λ (z : Machine). pick v (acts yea s) (acts nay s) ++ acts rest z) e3;
              words = zr.words;
            };
      }

  on_if :
      (g : Scope) (j m : ℕ) (env : Env) (bits : Bits) (t : Source) (yea nay rest : Items) (s : Machine)
      → FitsSource t → FitsItems yea → FitsItems nay → Clear regs h g → met h g ≡ true
      → Live regs h env s.registers → BitsAre regs h f st mem bits s.registers
      → Parts regs h f st mem g j m env bits t yea nay rest
      → (Clear regs h (under (test_at g j env bits t) true) → met h (under (test_at g j env bits t) true) ≡ true
      → On regs h f st mem (under (test_at g j env bits t) true) (legs_at g j env bits t) m env no_bits yea s)
      → (Clear regs h (under (test_at g j env bits t) false) → met h (under (test_at g j env bits t) false) ≡ true
      → On regs h f st mem (under (test_at g j env bits t) false) (nay_at g j m env bits t yea)
      (yea_out g j m env bits t yea).number env no_bits nay s)
      → Rest g j m env bits t yea nay rest → On regs h f st mem g j m env bits (If t yea nay rest) s
  on_if g j m env bits t yea nay rest s tt' ty tn cl u l bs p iy ins ir =
      let d = tested_decides regs h f st mem g j env bits t s.registers tt' u l bs p.test_runs in
      go d.word d.gives d.means (low d.word) refl
    where
      go : (w : ℕ) → h (test_at g j env bits t) ≡ Some (Word w)
          → (Meant regs h f st mem → low w ≡ nonzero (value_of s.registers t)) → (b : Bool) → low w ≡ b
          → On regs h f st mem g j m env bits (If t yea nay rest) s
      go w e wm true o =
          let k = test_at g j env bits t in
          let ms = test_met regs h f st mem k w true e o in
          let cn = word_clear regs h k w false e in
          on_yea g j m env bits t yea nay rest s w cl l bs p e o wm (iy (word_clear regs h k w true e) ms.0)
          (off_items regs h f st mem nay (under k false) (nay_at g j m env bits t yea)
          (yea_out g j m env bits t yea).number env no_bits tn cn ms.1 (live_sparse regs h env s.registers l)
          (absent_none regs h) p.nay_runs) ir
      go w e wm false o =
          let k = test_at g j env bits t in
          let ms = test_met regs h f st mem k w false e o in
          let cy = word_clear regs h k w true e in
          on_nay g j m env bits t yea nay rest s w cl l bs p e o wm
          (off_items regs h f st mem yea (under k true) (legs_at g j env bits t) m env no_bits ty cy ms.0
          (live_sparse regs h env s.registers l) (absent_none regs h) p.yea_runs)
          (ins (word_clear regs h k w false e) ms.1) ir

  -- where their guard is met, the nodes of items do what the items do
  pub on_items :
      (is : Items) (g : Scope) (j m : ℕ) (env : Env) (bits : Bits) (s : Machine) → FitsItems is → Clear regs h g
      → met h g ≡ true → Live regs h env s.registers → BitsAre regs h f st mem bits s.registers
      → Runs regs h f st j (items g j m env bits is).nodes → On regs h f st mem g j m env bits is s
  on_items Done g j m env bits s tk cl u l bs x =
      record {
        after = s;
        live = l;
        calm = tt;
        bit = bs;
        kept = λ q e. refl;
        means = λ t ws mm. record
            { same = refl; memory = mm; acts = refl; words = ws };
      }
  on_items (Set r o a b rest) g j m env bits s tk cl u l bs x =
      on_set regs h f st mem g j m env bits r o a b rest s tk.1 tk.2 tk.3 cl u l bs x
      (λ k m2 env2 bits2 s2 l2 b2 x2. on_items rest g k m2 env2 bits2 s2 tk.4 cl u l2 b2 x2)
  on_items (Load r o a rest) g j m env bits s tk cl u l bs x =
      on_load regs h f st mem g j m env bits r o a rest s tk.1 tk.2 cl u l bs x
      (λ k m2 env2 bits2 s2 l2 b2 x2. on_items rest g k m2 env2 bits2 s2 tk.3 cl u l2 b2 x2)
  on_items (Save o a b rest) g j m env bits s tk cl u l bs x =
      on_save regs h f st mem g j m env bits o a b rest s tk.0 tk.1 tk.2 cl u l bs x
      (λ k m2 env2 bits2 s2 l2 b2 x2. on_items rest g k m2 env2 bits2 s2 tk.3 cl u l2 b2 x2)
  on_items (If t yea nay rest) g j m env bits s tk cl u l bs x =
      let p = parts_of regs h f st mem g j m env bits t yea nay rest x in
      on_if g j m env bits t yea nay rest s tk.0 tk.1 tk.2 cl u l bs p
      (λ c v. on_items yea (under (test_at g j env bits t) true) (legs_at g j env bits t) m env no_bits s tk.1 c v l
      (no_bit regs h f st mem s.registers) p.yea_runs)
      (λ c v. on_items nay (under (test_at g j env bits t) false) (nay_at g j m env bits t yea)
      (yea_out g j m env bits t yea).number env no_bits s tk.2 c v l (no_bit regs h f st mem s.registers) p.nay_runs)
      (λ s2 l2 b2. on_items rest g (rest_at g j m env bits t yea nay) (nay_out g j m env bits t yea nay).number
      (joined g j m env bits t yea nay).env (left_bits bits (touched yea ++ touched nay)) s2 tk.3 cl u l2 b2
      p.rest_runs)

-- Where stretches of emission lead: steps, chains, moves and calls.
use Rattle.std.proofs.Common.{◌≡◌, ℕ, suc, ◌+◌, ◌-◌, Bool, true, false, List, [], ◌∷◌, ◌++◌}
use Rattle.std.proofs.Common.{map, Option, refl, sym, ap, ◌∙◌, subst, arith, append_assoc}
use Rattle.trips_isa.specs.declared.op.Op.TheVariants.{Mov}
use Rattle.ir_forms.specs.declared.flat.Arg.{Arg}
use Rattle.ir_forms.specs.declared.hyper.Source.TheVariants.{Const}
use Rattle.ir_forms.specs.inside.HyperCode.{Block}
use Rattle.ir_forms.specs.inside.HyperRuns.{jump}
use Rattle.hyper_build.specs.declared.emitting.Note.{Note}
use Rattle.hyper_build.specs.inside.Tree.{Plan}
use Rattle.hyper_build.specs.inside.Parts.{set_then, cut, cut_blocks, cut_size, chain, chain_blocks, chain_size, Move}
use Rattle.hyper_build.specs.inside.Parts.{moved, moved_blocks, moved_size}
use Rattle.hyper_build.specs.inside.Passing.{saving, restoring, argument_moves, argument_cuts, result_then}
use Rattle.hyper_build.specs.inside.Sizes.{arguments_size}
use Rattle.hyper_build.specs.inside.Entries.{call_block}
use Rattle.hyper_build.specs.inside.Backward.{Emission, with_rest, put_out, cut_at, fall, fall_by, fall_call, before}
use Rattle.hyper_build.specs.inside.Backward.{before_by}
use Rattle.hyper_build.specs.inside.BackwardStatements.{chained, moving, back_out, call_out}
use Rattle.hyper_build.specs.inside.Reached.{Reached}

-- one stretch after another
pub joined : {o : List Block} {m t : Emission} {l1 i1 k1 l i k : ℕ} {M N : List Note}
    {B1 : List Block} {E1 : Block} (B2 : Block → List Block) (E2 : Block → Block)
    → Reached o m l1 i1 k1 M B1 E1 → Reached m.out t l i k N (B2 m.rest) (E2 m.rest)
    → Reached o t l i k N (B2 E1 ++ B1) (E2 E1)
joined {o = o} {m = m} {B1 = B1} {E1 = E1} B2 E2 p q = record {
  label = q.label;
  place = q.place;
  calls = q.calls;
  notes = q.notes;
  out = q.out ∙ ap (λ x. B2 x ++ m.out) p.rest ∙ ap (λ x. B2 E1 ++ x) p.out
      ∙ sym (append_assoc (B2 E1) B1 o);
  rest = q.rest ∙ ap E2 p.rest;
}

-- the rest becomes another
pub mapped : {o : List Block} {t : Emission} {l i k : ℕ} {N : List Note} {B : List Block} {E : Block}
    (f : Block → Block) → Reached o t l i k N B E → Reached o (with_rest (f t.rest) t) l i k N B (f E)
mapped f p = record {
  label = p.label;
  place = p.place;
  calls = p.calls;
  notes = p.notes;
  out = p.out;
  rest = ap f p.rest;
}

-- what is reached with a rest is reached with an equal one
pub rested : {o : List Block} {t : Emission} {l i k : ℕ} {N : List Note} {B : List Block} {E : Block} (k1 k2 : Block)
    → k1 ≡ k2 → Reached o t l i k N B E → Reached o (with_rest k1 t) l i k N B k2
rested k1 k2 e p = record {
  label = p.label;
  place = p.place;
  calls = p.calls;
  notes = p.notes;
  out = p.out;
  rest = e;
}

-- another way to write the state, its blocks and the rest
pub restated : {o : List Block} {t u : Emission} {l i k : ℕ} {N : List Note} {B C : List Block} {E F : Block}
    → u ≡ t → C ≡ B → F ≡ E → Reached o t l i k N B E → Reached o u l i k N C F
restated {o = o} et eb ee p = record {
  label = ap (λ (x : Emission). x.label) et ∙ p.label;
  place = ap (λ (x : Emission). x.place) et ∙ p.place;
  calls = ap (λ (x : Emission). x.calls) et ∙ p.calls;
  notes = ap (λ (x : Emission). x.notes) et ∙ p.notes;
  out = ap (λ (x : Emission). x.out) et ∙ p.out ∙ ap (λ y. y ++ o) (sym eb);
  rest = ap (λ (x : Emission). x.rest) et ∙ p.rest ∙ sym ee;
}

-- one less than one more is the number
pub one_less : (n l : ℕ) → n ≡ l + 1 → n - 1 ≡ l
one_less n l e = omega (arith, e)

-- putting the rest out reaches one block more and a jump to it
pub put_reached : (s : Emission) (l i k : ℕ) (N : List Note) → s.label ≡ l + 1 → s.place ≡ i
    → s.calls ≡ k → s.notes ≡ N → Reached s.out (put_out s) l i k N (s.rest ∷ []) (jump l)
put_reached s l i k N e ei ek en = record {
  label = one_less s.label l e;
  place = ei;
  calls = ek;
  notes = en;
  out = refl;
  rest = ap jump (one_less s.label l e);
}

-- a cut reaches its blocks and what is left of the rest
pub cut_reached : (c : Bool) (s : Emission) (l i k : ℕ) (N : List Note)
    → s.label ≡ l + cut_size c → s.place ≡ i → s.calls ≡ k → s.notes ≡ N
    → Reached s.out (cut_at c s) l i k N (cut_blocks c s.rest) (cut c l s.rest)
cut_reached true s l i k N e ei ek en = put_reached s l i k N e ei ek en
cut_reached false s l i k N e ei ek en =
    record { label = omega (arith, e); place = ei; calls = ek; notes = en; out = refl; rest = refl }

-- what is done before a statement reaches the blocks of its cut
pub before_reached : (p : Plan) (s : Emission) (l i k : ℕ) (N : List Note)
    → s.label ≡ l + cut_size (p.cut i) → s.place ≡ i + 1 → s.calls ≡ k → s.notes ≡ N
    → Reached s.out (before p s) l i k N (cut_blocks (p.cut i) s.rest) (cut (p.cut i) l s.rest)
before_reached p s l i k N e ei ek en =
    let h = one_less s.place i ei in
    subst (λ j. Reached s.out (cut_at (p.cut j) (fall s)) l i k N (cut_blocks (p.cut i) s.rest)
    (cut (p.cut i) l s.rest))
    (sym h) (cut_reached (p.cut i) (fall s) l i k N e h ek en)

-- before a statement that has n, itself and those in it
pub before_by_reached : (p : Plan) (n : ℕ) (s : Emission) (l i k : ℕ) (N : List Note)
    → s.label ≡ l + cut_size (p.cut i) → s.place ≡ i + n → s.calls ≡ k → s.notes ≡ N
    → Reached s.out (before_by p n s) l i k N (cut_blocks (p.cut i) s.rest) (cut (p.cut i) l s.rest)
before_by_reached p n s l i k N e ei ek en =
    let h : s.place - n ≡ i = omega (arith, ei) in
    subst (λ j. Reached s.out (cut_at (p.cut j) (fall_by n s)) l i k N (cut_blocks (p.cut i) s.rest)
    (cut (p.cut i) l s.rest))
    (sym h) (cut_reached (p.cut i) (fall_by n s) l i k N e h ek en)

-- a chain of groups before the rest reaches its blocks
pub chained_reached : (c : Bool) (part : List ℕ → Block → Block) (gs : List (List ℕ)) (s : Emission)
    (l i k : ℕ) (N : List Note) → s.label ≡ l + chain_size c gs → s.place ≡ i → s.calls ≡ k → s.notes ≡ N
    → Reached s.out (chained c part gs s) l i k N (chain_blocks c (map part gs) l s.rest)
    (chain c (map part gs) l s.rest)
chained_reached c part [] s l i k N e ei ek en =
    record { label = omega (arith, e); place = ei; calls = ek; notes = en; out = refl; rest = refl }
chained_reached c part (g ∷ gs) s l i k N e ei ek en =
    let m = chained c part gs s in
    let r = chained_reached c part gs s (l + cut_size c) i k N (omega (arith, e)) ei ek en in
    mapped (part g)
    (joined (cut_blocks c) (cut c l) r (cut_reached c m l i k N r.label r.place r.calls r.notes))

-- moves before the rest reach their blocks
pub moving_reached : (cuts : ℕ → Bool) (n : ℕ) (xs : List Move) (s : Emission) (l i k : ℕ)
    (N : List Note) → s.label ≡ l + moved_size cuts n xs → s.place ≡ i → s.calls ≡ k → s.notes ≡ N
    → Reached s.out (moving cuts n xs s) l i k N (moved_blocks cuts n xs l s.rest)
    (moved cuts n xs l s.rest)
moving_reached cuts n [] s l i k N e ei ek en =
    record { label = omega (arith, e); place = ei; calls = ek; notes = en; out = refl; rest = refl }
moving_reached cuts n (x ∷ xs) s l i k N e ei ek en =
    let m = moving cuts (suc n) xs s in
    let r = moving_reached cuts (suc n) xs s (l + cut_size (cuts n)) i k N (omega (arith, e)) ei ek en in
    mapped (set_then x.to Mov x.from (Const 0))
    (joined (cut_blocks (cuts n)) (cut (cuts n) l) r
    (cut_reached (cuts n) m l i k N r.label r.place r.calls r.notes))

-- CALLS

-- a cut leaves the number of statements before
pub cut_place : (c : Bool) (s : Emission) → (cut_at c s).place ≡ s.place
cut_place true s = refl
cut_place false s = refl

cut_calls : (c : Bool) (s : Emission) → (cut_at c s).calls ≡ s.calls
cut_calls true s = refl
cut_calls false s = refl

chained_place : (c : Bool) (part : List ℕ → Block → Block) (gs : List (List ℕ)) (s : Emission)
    → (chained c part gs s).place ≡ s.place
chained_place c part [] s = refl
chained_place c part (g ∷ gs) s = cut_place c (chained c part gs s) ∙ chained_place c part gs s

chained_calls : (c : Bool) (part : List ℕ → Block → Block) (gs : List (List ℕ)) (s : Emission)
    → (chained c part gs s).calls ≡ s.calls
chained_calls c part [] s = refl
chained_calls c part (g ∷ gs) s = cut_calls c (chained c part gs s) ∙ chained_calls c part gs s

abbrev back_by : ℕ → Bool → List (List ℕ) → Option ℕ → Emission → Emission
back_by frame small gs to u =
    put_out (chained small (restoring frame) gs (with_rest (result_then to u.rest) u))

abbrev call_by : ℕ → ℕ → Bool → List (List ℕ) → List Arg → Emission → Emission
call_by frame entry small gs args t =
    chained small (saving frame) gs (moving (argument_cuts small) 0 (argument_moves 0 args)
    (with_rest (call_block entry t.label) t))

abbrev call_blocks : ℕ → ℕ → Bool → List (List ℕ) → List Arg → ℕ → Block → List Block → List Block
call_blocks frame entry small gs args l last others =
    let back = l + chain_size small gs + arguments_size small args in
    let moves = argument_moves 0 args in
    let call = call_block entry back in
    chain_blocks small (map (saving frame) gs) l
    (moved (argument_cuts small) 0 moves (l + chain_size small gs) call)
    ++ (moved_blocks (argument_cuts small) 0 moves (l + chain_size small gs) call
    ++ (chain small (map (restoring frame) gs) (back + 1) last
    ∷ (chain_blocks small (map (restoring frame) gs) (back + 1) last ++ others)))

abbrev call_rest : ℕ → ℕ → Bool → List (List ℕ) → List Arg → ℕ → Block
call_rest frame entry small gs args l =
    chain small (map (saving frame) gs) l
    (moved (argument_cuts small) 0 (argument_moves 0 args) (l + chain_size small gs)
    (call_block entry (l + chain_size small gs + arguments_size small args)))

by_reached : {o : List Block} (frame entry : ℕ) (small : Bool) (gs : List (List ℕ)) (args : List Arg)
    (to : Option ℕ) (u : Emission) (l i k : ℕ) (N : List Note) (B : List Block) (E : Block)
    → Reached o u (l + chain_size small gs + arguments_size small args + 1 + chain_size small gs) i k N B E
    → Reached o (call_by frame entry small gs args (back_by frame small gs to u)) l i k N
    (call_blocks frame entry small gs args l (result_then to E) B)
    (call_rest frame entry small gs args l)
by_reached frame entry small gs args to u l i k N B E p =
    let back = l + chain_size small gs + arguments_size small args in
    let v = with_rest (result_then to u.rest) u in
    let w = chained small (restoring frame) gs v in
    let parts = map (restoring frame) gs in
    let r1 = mapped (result_then to) p in
    let r2 = joined (chain_blocks small parts (back + 1)) (chain small parts (back + 1)) r1
    (chained_reached small (restoring frame) gs v (back + 1) i k N r1.label r1.place r1.calls r1.notes) in
    let r3 = joined (λ x. x ∷ []) (λ x. jump back) r2
    (put_reached w back i k N r2.label r2.place r2.calls r2.notes) in
    let x = put_out w in
    let r4 = rested (call_block entry x.label) (call_block entry back)
    (ap (call_block entry) r3.label) r3 in
    let y = with_rest (call_block entry x.label) x in
    let cuts = argument_cuts small in
    let moves = argument_moves 0 args in
    let r5 = joined (moved_blocks cuts 0 moves (l + chain_size small gs))
    (moved cuts 0 moves (l + chain_size small gs)) r4
    (moving_reached cuts 0 moves y (l + chain_size small gs) i k N r4.label r4.place r4.calls r4.notes) in
    let z = moving cuts 0 moves y in
    joined (chain_blocks small (map (saving frame) gs) l) (chain small (map (saving frame) gs) l) r5
    (chained_reached small (saving frame) gs z l i k N r5.label r5.place r5.calls r5.notes)

-- a call before the rest reaches its blocks
pub call_reached : (p : Plan) (frame entry : ℕ) (args : List Arg) (to : Option ℕ) (s : Emission)
    (l i k : ℕ) (N : List Note)
    → s.label ≡ l + (chain_size (p.small i) (p.groups k) + (arguments_size (p.small i) args
    + (1 + (chain_size (p.small i) (p.groups k) + cut_size (p.cut i)))))
    → s.place ≡ i + 1 → s.calls ≡ k + 1 → s.notes ≡ N
    → Reached s.out (call_out p frame entry args (back_out p frame to s)) l i k N
    (call_blocks frame entry (p.small i) (p.groups k) args l
    (result_then to (cut (p.cut i)
    (l + chain_size (p.small i) (p.groups k) + arguments_size (p.small i) args + 1
    + chain_size (p.small i) (p.groups k)) s.rest))
    (cut_blocks (p.cut i) s.rest))
    (call_rest frame entry (p.small i) (p.groups k) args l)
call_reached p frame entry args to s l i k N e ei ek en =
    let small = p.small i in
    let gs = p.groups k in
    let u = before p (fall_call s) in
    let lb = l + chain_size small gs + arguments_size small args + 1 + chain_size small gs in
    let B = cut_blocks (p.cut i) s.rest in
    let E = cut (p.cut i) lb s.rest in
    let r = before_reached p (fall_call s) lb i k N (omega (arith, e)) ei (one_less s.calls k ek) en in
    let q = by_reached frame entry small gs args to u l i k N B E r in
    let C = call_blocks frame entry small gs args l (result_then to E) B in
    let K = call_rest frame entry small gs args l in
    let q1 = subst (λ j. Reached s.out (call_by frame entry small gs args
    (back_by frame (p.small j) gs to u)) l i k N C K) (sym r.place) q in
    let q2 = subst (λ j. Reached s.out (call_by frame entry small gs args
    (back_by frame (p.small u.place) (p.groups j) to u)) l i k N C K) (sym r.calls) q1 in
    let v = with_rest (result_then to u.rest) u in
    let t = back_by frame (p.small u.place) (p.groups u.calls) to u in
    let h = chained_place (p.small u.place) (restoring frame) (p.groups u.calls) v ∙ r.place in
    let n = chained_calls (p.small u.place) (restoring frame) (p.groups u.calls) v ∙ r.calls in
    let q3 = subst (λ j. Reached s.out (call_by frame entry (p.small j) gs args t) l i k N C K)
    (sym h) q2 in
    subst (λ j. Reached s.out (call_by frame entry (p.small t.place) (p.groups j) args t) l i k N C K)
    (sym n) q3

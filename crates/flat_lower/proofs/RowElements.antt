-- Elements by two indexes: their code joins the two words to one, which is the index of the object where the
-- element is there.
use Rattle.std.proofs.Common.{◌≡◌, ◌≢◌, ℕ, zero, suc, ◌+◌, ◌-◌, ◌*◌, ◌%◌, ◌^◌, ◌<◌, ◌≤◌, Bool, true}
use Rattle.std.proofs.Common.{false, cond, List, [], ◌∷◌, map, length, Option, Some, None, refl}
use Rattle.std.proofs.Common.{sym, ap, ap₂, ◌∙◌, subst, arith}
use Rattle.std.specs.Prelude.{slice_get, ◌&&◌, nat_lt}
use Rattle.c_tree.specs.declared.Kind.{Kind}
use Rattle.c_tree.specs.declared.Kind.TheVariants.{Char, UChar, Short, UShort, Int, UInt, Long, ULong}
use Rattle.c_tree.specs.declared.Kind.TheVariants as kind
use Rattle.c_tree.specs.declared.Place.{Place}
use Rattle.c_tree.specs.declared.Place.TheVariants.{Global, Scalar, Array}
use Rattle.c_tree.specs.declared.TypedExpr.{TypedExpr}
use Rattle.c_tree.specs.declared.TypedProgram.{TypedProgram}
use Rattle.c_meaning_spec.specs.declared.fault.Fault.TheVariants.{IllFormed}
use Rattle.c_meaning_spec.specs.State.{missing}
use Rattle.c_meaning_spec.specs.declared.signal.Signal.{Signal}
use Rattle.c_meaning_spec.specs.declared.signal.Object.TheVariants.{InArray}
use Rattle.c_meaning_spec.specs.declared.signal.Object as meant
use Rattle.c_meaning_spec.specs.State.{Result, want, with_some, cell, held, row_in}
use Rattle.c_meaning_spec.specs.inside.State.{then}
use Rattle.c_meaning_spec.specs.State as eval
use Rattle.c_meaning_spec.specs.Task.{Of, array_of, place_in, row_element_in, row_element_of}
use Rattle.c_meaning_spec.specs.State.{row_size}
use Rattle.c_meaning_spec.specs.Eval.{meaning}
use Rattle.c_constant.specs.Kinds.{bytes, IsWord}
use Rattle.trips_isa.specs.declared.op.Op.TheVariants as op
use Rattle.ir_forms.specs.declared.flat.Arg.TheVariants.{Const, Var}
use Rattle.ir_forms.specs.inside.FlatCode.{Code, Then, only, Let}
use Rattle.ir_forms.specs.inside.Cells.{Memory, apply}
use Rattle.ir_forms.specs.inside.FlatSteps.{State}
use Rattle.ir_forms.specs.inside.FlatRuns.{checked}
use Rattle.ir_forms.proofs.Leads.{Run}
use Rattle.ir_forms.proofs.Steps.{then_then, then_moves}
use Rattle.flat_lower.specs.inside.TreeViews.{expr_of}
use Rattle.flat_lower.specs.inside.Operations.{temp}
use Rattle.flat_lower.specs.inside.Powers.{exponent_of, scaled_by}
use Rattle.flat_lower.specs.inside.Objects.{global_row, slot_row, array_row, row_of}
use Rattle.flat_lower.specs.inside.Expressions.{joined_by, joined_code}
use Rattle.flat_lower.specs.inside.Fits.{FitsExpr, FitsWhole}
use Rattle.flat_lower.specs.inside.Sizes.{nodes}
use Rattle.flat_lower.proofs.Straight.{Puts, puts_let, puts_both, var_read}
use Rattle.flat_lower.proofs.PowerLaws.{scaled_puts}
use Rattle.flat_lower.proofs.Objects.{Object, object_row, Stored, AllStored, laid_at, element_in}
use Rattle.flat_lower.proofs.Follows.{Post, Follows, needed, wanted, moved}
use Rattle.flat_lower.proofs.Related.{Scene, IsScene, scope, context, frames_from, ObjectIs, Related}
use Rattle.flat_lower.proofs.Related.{held_is, element_within}
use Rattle.flat_lower.proofs.Pieces.{place_is}
use Rattle.flat_lower.proofs.Values.{ValueIs, value_at, keeps_both, keeps_set, functions, base, FollowsOf}
use Rattle.flat_lower.proofs.Values.{run, code, operand}

-- the word that two indexes are joined to
abbrev pub joined : ℕ → ℕ → ℕ → ℕ
joined q i j = ((i * q) % 2 ^ 64 + j) % 2 ^ 64

joined_small : (x j : ℕ) → x + j < 2 ^ 64 → (x % 2 ^ 64 + j) % 2 ^ 64 ≡ x + j
joined_small x j h = omega arith

-- of an element that is there it is the place
joined_is : (q n i j : ℕ) → place_in (Some q) n i j < n → place_in (Some q) n i j < 2 ^ 64
    → joined q i j ≡ place_in (Some q) n i j
joined_is q n i j h k = go (nat_lt j q && nat_lt (i * q + j) n) h k
  where
    go : (b : Bool) → cond b (i * q + j) n < n → cond b (i * q + j) n < 2 ^ 64
        → joined q i j ≡ cond b (i * q + j) n
    go true h k = joined_small (i * q) j k
    go false h k = absurd (omega arith)

joined_below : (q i j : ℕ) → joined q i j < 2 ^ 64
joined_below q i j = go ((i * q) % 2 ^ 64 + j)
  where
    go : (n : ℕ) → n % 2 ^ 64 < 2 ^ 64
    go n = omega arith

-- every word is one of the widest type
joined_fits : (w : ℕ) → w < 2 ^ 64 → IsWord ULong w
joined_fits w h = record { below = h; narrow = omega arith }

-- an item of a list whose items are changed
mapped : {A B : Type 0} → (f : A → B) (xs : List A) (n : ℕ) (x : A) → slice_get xs n ≡ Some x
    → slice_get (map f xs) n ≡ Some (f x)
mapped f [] n x h = absurd (cc h)
mapped f (y ∷ ys) zero x h = ap (λ y. Some (f y)) (cc h)
mapped f (y ∷ ys) (suc n) x h = mapped f ys n x h

-- the cells of an object
record CellsOf (o : Object) (rows : List (List (Option ℕ))) (n : ℕ) : Type 0 where
  pub row : List (Option ℕ)
  pub found : slice_get rows n ≡ Some row
  pub long : length row ≡ o.length

cells_of : (os : List Object) (rows : List (List (Option ℕ))) (m : Memory) (n : ℕ) (o : Object)
    → AllStored os rows m → slice_get os n ≡ Some o → CellsOf o rows n
cells_of [] rows m n o a e = absurd (cc e)
cells_of (p ∷ os) [] m n o a e = absurd a
cells_of (p ∷ os) (r ∷ rs) m zero o a e =
    let same : p ≡ o = cc e in
    record { row = r; found = refl; long = a.0.long ∙ ap (λ (o : Object). o.length) same }
cells_of (p ∷ os) (r ∷ rs) m (suc n) o a e =
    let x = cells_of os rs m n o a.1 e in record { row = x.row; found = x.found; long = x.long }

below_bytes : (k : Kind) (m : ℕ) → bytes k * m < 2 ^ 64 → m < 2 ^ 64
below_bytes Char m h = omega arith
below_bytes UChar m h = omega arith
below_bytes Short m h = omega arith
below_bytes UShort m h = omega arith
below_bytes Int m h = omega arith
below_bytes UInt m h = omega arith
below_bytes Long m h = omega arith
below_bytes ULong m h = omega arith
below_bytes kind.Bool m h = omega arith

module _ (P : TypedProgram) (most : ℕ) (S : Scene) (y : IsScene P S) where
  -- the code knows the second size
  pub row_is : (p : Place) (k : Kind) (q : ℕ) → FitsWhole (scope P S) k (Some q) p
      → row_of (context P S) p ≡ Some q
  row_is (Global g) k q t = ap global_row t.1.found ∙ t.1.wide
  row_is (Scalar i) k q t = ap slot_row t
  row_is (Array a) k q t = ap array_row t.found ∙ t.wide

  -- an index of an element that is there is a word
  index_small : (n m : ℕ) (k : Kind) (o : ObjectIs S.objects n k) → m < o.it.length → m < 2 ^ 64
  index_small n m k o lt =
      let st = laid_at 0 (frames_from P + S.env.used) S.objects n o.it y.laid o.found in
      let last = element_in o.it.kind o.it.at o.it.length m lt in
      let below = st.below in
      let room = y.room in
      below_bytes o.it.kind m (small (bytes o.it.kind * m) (omega arith))
    where
      small : (n : ℕ) → n ≤ 4194304 → n < 2 ^ 64
      small n h = omega arith

  -- an element by two indexes, in a state behind them
  pub record RowElementIs (p : Place) (k : Kind) (q i j : ℕ) (s : eval.State) (x : meant.Object) : Type 0 where
    pub number : ℕ
    pub index : ℕ
    pub array : array_of p s ≡ Some number
    pub is : x ≡ InArray number index
    pub same : (o : ObjectIs S.objects number k) → index < o.it.length → joined q i j ≡ index

  -- an element by two indexes that is there is the one at the joined index
  pub row_element_is : (p : Place) (k : Kind) (q i j : ℕ) (s : eval.State) (f : State) (x : meant.Object)
      → Related S s f → FitsWhole (scope P S) k (Some q) p → row_element_of p i j s ≡ Some x
      → RowElementIs p k q i j s x
  row_element_is p k q i j s f x r t h = go (array_of p s) refl h
    where
      go : (o : Option ℕ) → array_of p s ≡ o → row_element_in o i j s.rows s.arrays ≡ Some x
          → RowElementIs p k q i j s x
      go None e h = absurd (cc h)
      go (Some n) e h =
          let z = place_is P (functions P most) (base P most) S y p k (Some q) n s f r t e in
          let it = z.array.it in
          let found : slice_get S.objects n ≡ Some it = z.array.found in
          let c = cells_of S.objects s.arrays f.memory n it r.stored found in
          let rows : row_size (slice_get s.rows n) ≡ Some q = ap (λ l. row_size (slice_get l n)) r.rows
          ∙ ap row_size (mapped object_row S.objects n it found) ∙ z.wide in
          let long : length (row_in (slice_get s.arrays n)) ≡ it.length = ap
          (λ o. length (row_in o)) c.found ∙ c.long in
          let m = place_in (Some q) it.length i j in
          let at : place_in (row_size (slice_get s.rows n)) (length (row_in (slice_get s.arrays n))) i j ≡ m = ap₂
          (λ a b. place_in a b i j) rows long in
          record {
            number = n;
            index = m;
            array = e;
            is = cc (sym h) ∙ ap (InArray n) at;
            same = λ o lt.
                let one : o.it ≡ it = cc (sym o.found ∙ found) in
                let lt1 : m < it.length = subst (λ (o : Object). m < o.length) one lt in
                joined_is q it.length i j lt1 (index_small n m k o lt);
          }

  -- what reads the cell first is shown where there is the element
  pub row_reads : (Q : Post) (R : Run) (top low : ℕ) (p : Place) (k : Kind) (q i j : ℕ) (s : eval.State)
      (f : State) (next : meant.Object → ℕ → Result) → Related S s f
      → FitsWhole (scope P S) k (Some q) p
      → ((n m : ℕ) → array_of p s ≡ Some n → joined q i j ≡ m
      → Follows most Q R top low
      (with_some (held (cell s (InArray n m))) (missing s (InArray n m)) s (next (InArray n m))))
      → Follows most Q R top low (with_some (row_element_of p i j s) IllFormed s
      (λ x. with_some (held (cell s x)) (missing s x) s (next x)))
  row_reads Q R top low p k q i j s f next r t h =
      needed most Q R top low (row_element_of p i j s) _ s
      (λ x. with_some (held (cell s x)) (missing s x) s (next x)) (λ x ex.
      let e = row_element_is p k q i j s f x r t ex in
      let n = e.number in
      let m = e.index in
      subst (λ x. Follows most Q R top low (with_some (held (cell s x)) (missing s x) s (next x))) (sym e.is)
      (needed most Q R top low (held (cell s (InArray n m))) _ s (next (InArray n m)) (λ v ev.
      let z = place_is P (functions P most) (base P most) S y p k (Some q) n s f r t e.array in
      let lt = element_within S s f n m (Some v) k z.array (held_is (cell s (InArray n m)) v ev) r in
      subst (λ o. Follows most Q R top low (with_some o (missing s (InArray n m)) s
      (next (InArray n m)))) ev
      (h n m e.array (e.same z.array lt)))))

  -- TWO INDEXES

  joined_puts : (p : Place) (k : Kind) (q i j d : ℕ) (f : State) → suc d < 16 → FitsWhole (scope P S) k (Some q) p
      → f.vars (temp d) ≡ Some i → f.vars (temp (suc d)) ≡ Some j → Puts (functions P most) (base P most)
      S.env (joined_by (row_of (context P S) p) d) f 2 (temp d) 81 (joined q i j)
  unfolding apply
  joined_puts p k q i j d f ld t ei ej =
      let fs = functions P most in
      let b = base P most in
      let v = (i * q) % 2 ^ 64 in
      let scaled = scaled_by (exponent_of q) q (temp d) in
      let a1 = scaled_puts fs b S.env q i f (temp d) ei in
      let other : a1.to.vars (temp (suc d)) ≡ Some j = a1.sets.others (temp (suc d)) (λ e. omega arith)
      (λ e. omega arith) ∙ ej in
      subst (λ o. Puts fs b S.env (joined_by o d) f 2 (temp d) 81 (joined q i j)) (sym (row_is p k q t))
      (puts_both fs b S.env scaled
      (only (Let (temp d) op.Add (Var (temp d)) (Var (temp (suc d))))) f 1 1 (temp d) 81 v (joined q i j) a1
      (puts_let fs b S.env op.Add (Var (temp d)) (Var (temp (suc d))) a1.to 1 (temp d) 81 v j (joined q i j)
      (omega arith) (var_read fs b S.env a1.to (temp d) v a1.sets.value)
      (var_read fs b S.env a1.to (temp (suc d)) j other) refl))

  -- the code of two indexes follows the evaluation and leaves their joined index, where both do
  pub row_operands : (Q : Post) (p : Place) (k : Kind) (q : ℕ) (row index : TypedExpr) (d : ℕ) (b : Code)
      (s : eval.State) (f : State) (top low : ℕ) (next : ℕ → ℕ → eval.State → Result) → suc d < 16
      → ((e : TypedExpr) (s1 : eval.State) → s1.stock ≤ s.stock → FollowsOf P most e s1)
      → FitsWhole (scope P S) k (Some q) p → FitsExpr (scope P S) d (expr_of row)
      → FitsExpr (scope P S) (suc d) (expr_of index) → Related S s f → 8 * s.stock - 3 ≤ top
      → low ≤ s.stock + most * f.rounds - (nodes (expr_of row) + nodes (expr_of index))
      → ((i j : ℕ) (s2 : eval.State) (g : State) (t : ℕ) → ValueIs S d (Some ULong) f (joined q i j) s2 g
      → s2.stock < s.stock → t + 8 * s2.stock ≤ 8 * s.stock - 3
      → s.stock + most * f.rounds - (nodes (expr_of row) + nodes (expr_of index))
      ≤ s2.stock + most * g.rounds → Follows most Q (run P most S y b g) (top - t) low (next i j s2))
      → Follows most Q (run P most S y (Then (joined_code (context P S) p d (code P most S y d row)
      (code P most S y (suc d) index)) b) f) top low
      (then (meaning P (Of row) s) (λ v s. want v s (λ i. then (meaning P (Of index) s)
      (λ v s. want v s (λ j. next i j s)))))
  row_operands Q p k q row index d b s f top low next ld h t tr ti r hu hl go =
      let R = code P most S y d row in
      let I = code P most S y (suc d) index in
      let J = joined_by (row_of (context P S) p) d in
      let after = λ (i : ℕ) (v : Signal) (s : eval.State). want v s (λ j. next i j s) in
      subst (λ a. Follows most Q (run P most S y a f) top low
      (then (meaning P (Of row) s) (λ v s. want v s (λ i. then (meaning P (Of index) s) (after i)))))
      (sym (then_then R (Then I J) b ∙ ap (Then R) (then_then I J b)))
      (operand P most S y Q row d (Then I (Then J b)) s f top low
      (λ v s. want v s (λ i. then (meaning P (Of index) s) (after i))) (h row s (omega arith)) tr r hu
      (omega arith)
      (λ v s1 g t1 hv ls us ds.
      wanted most Q (run P most S y (Then I (Then J b)) g) (top - t1) low v s1
      (λ i. then (meaning P (Of index) s1) (after i)) (λ i ei.
      let x = value_at S d row.kind f v i s1 g ei hv in
      operand P most S y Q index (suc d) (Then J b) s1 g (top - t1) low (after i)
      (h index s1 (omega arith)) ti x.keeps.rel (omega arith) (omega arith)
      (λ u s2 g2 t2 hv2 ls2 us2 ds2.
      wanted most Q (run P most S y (Then J b) g2) (top - t1 - t2) low u s2 (λ j. next i j s2) (λ j ej.
      let z = value_at S (suc d) index.kind g u j s2 g2 ej hv2 in
      let a = joined_puts p k q i j d g2 ld t (z.keeps.kept d (omega arith) ∙ x.is) z.is in
      let ke = keeps_set P most S y d f g2 a.to s2 (temp d) 81 (joined q i j) (omega arith) (omega arith)
      (omega arith) (keeps_both S d (suc d) f g g2 s1 s2 (omega arith) x.keeps z.keeps) a.sets in
      let few = a.few in
      let turns : top - (t1 + t2 + a.t) ≡ top - t1 - t2 - a.t = omega arith in
      let value : ValueIs S d (Some ULong) f (joined q i j) s2 a.to = record {
        keeps = ke;
        kind = ULong;
        is_kind = refl;
        fits = joined_fits (joined q i j) (joined_below q i j);
        is = a.sets.value;
      } in
      let rest : s.stock + most * f.rounds - (nodes (expr_of row) + nodes (expr_of index))
      ≤ s2.stock + most * g2.rounds = omega arith in
      moved most Q (run P most S y (Then J b) g2) (run P most S y b a.to) a.t (top - t1 - t2) low
      (next i j s2) (then_moves checked (functions P most) (base P most) S.env J b g2 a.to a.t a.leads)
      (omega arith)
      (subst (λ n. Follows most Q (run P most S y b a.to) n low (next i j s2)) turns
      (go i j s2 a.to (t1 + t2 + a.t) value (omega arith) (omega arith)
      (subst (λ c. s.stock + most * f.rounds - (nodes (expr_of row) + nodes (expr_of index))
      ≤ s2.stock + most * c) (sym a.sets.rounds) rest))))))))

-- The lists that the code keeps lead to the completed block.
use Rattle.std.proofs.Common.{◌≡◌, ℕ, zero, suc, ◌+◌, List, [], ◌∷◌, ◌++◌, length, get_or}
use Rattle.std.proofs.Common.{refl, sym, ap, ap₂, subst, ◌∙◌, arith, append_assoc, length-append, Bool, true, false}
use Rattle.std.proofs.Math.Path.{fun_ext}
use Rattle.ir_forms.specs.declared.flow.FlowNode.{FlowNode}
use Rattle.ir_forms.specs.declared.flow.FlowWrite.{FlowWrite}
use Rattle.ir_forms.specs.declared.flow.FlowBlock.{FlowBlock}
use Rattle.null_outputs.specs.declared.places.Guess.{Guess}
use Rattle.null_outputs.specs.declared.places.Region.{Region}
use Rattle.null_outputs.specs.declared.places.Starts.{Starts}
use Rattle.null_outputs.specs.inside.Completed.{trues, falses, lefts, rights, writes_at, places, cover}
use Rattle.null_outputs.specs.inside.Completed.{write_size, filled_all, numbers_at, number_part, number_size}
use Rattle.null_outputs.specs.inside.Completed.{numbers_part, all_numbers, trues_region, falses_region}
use Rattle.null_outputs.specs.inside.Completed.{lefts_region, rights_region, writes_region, added, completed}
use Rattle.null_outputs.specs.inside.Completed.{write_part}
use Rattle.null_outputs.specs.inside.Covers.{Sure, Want, Places, Cover, cover_of}
use Rattle.null_outputs.specs.inside.Groups.{guard_part, left_part, right_part, left_size, right_size}
use Rattle.null_outputs.specs.inside.Groups.{guard_part_size, region, start_of, end_of}
use Rattle.null_outputs.specs.inside.Sizes.{starts}
use Rattle.null_outputs.specs.inside.Surely.{sure_of, firm_of, firms, sure_by}
use Rattle.null_outputs.specs.inside.Wants.{or_all, wants_of, is_closed, want_by, complete}
use Rattle.null_outputs.specs.inside.Listed.{start_in, places_in, sure_in_guess, want_in_guess, cover_in}
use Rattle.null_outputs.specs.inside.Listed.{IsRegion, write_part_by, write_size_by, filled_by, all_filled_by}
use Rattle.null_outputs.specs.inside.Listed.{numbers_by, all_numbers_by}
use Rattle.null_outputs.specs.inside.Listed.{IsGuess, AreStarts, with_added}
use Rattle.null_outputs.proofs.Spaces.{guard_part_length, left_length, right_length, region_end}
use Rattle.null_outputs.proofs.Outputs.{write_length}
use Rattle.null_outputs.proofs.StartLists.{starts_are_listed}

abbrev pair : (ℕ → ℕ) → (ℕ → ℕ) → (ℕ → ℕ) × (ℕ → ℕ)
pair f g = (f, g)

-- what the code puts behind what, region after region
pub record IsEmitted (b : FlowBlock) (g : Guess) (s : Starts) (ns : List FlowNode) (ws : List FlowWrite)
    (zeroth one two three four five last : List FlowNode) : Type 0 where
  pub start : zeroth ≡ []
  pub on_true : one ≡ zeroth ++ region (guard_part (want_in_guess g) ns (cover_in ns g s) true)
      (guard_part_size (want_in_guess g) ns (sure_in_guess ns g) true) (length ns + length zeroth) 0 ns
  pub on_false : two ≡ one ++ region (guard_part (want_in_guess g) ns (cover_in ns g s) false)
      (guard_part_size (want_in_guess g) ns (sure_in_guess ns g) false) (length ns + length one) 0 ns
  pub left : three ≡ two ++ region (left_part (sure_in_guess ns g) (want_in_guess g) (cover_in ns g s))
      (left_size (sure_in_guess ns g) (want_in_guess g)) (length ns + length two) 0 ns
  pub right : four ≡ three ++ region (right_part (sure_in_guess ns g) (want_in_guess g) (cover_in ns g s))
      (right_size (sure_in_guess ns g) (want_in_guess g)) (length ns + length three) 0 ns
  pub written : five ≡ four ++ region (write_part_by (sure_in_guess ns g) (cover_in ns g s))
      (write_size_by (sure_in_guess ns g)) (length ns + length four) 0 ws
  pub stored : last ≡ five ++ all_numbers_by (sure_in_guess b.nodes g) (cover_in b.nodes g s) b
      (length b.nodes + length five)

-- WHERE COVERS STAND

-- places by pairs
abbrev four : (ℕ → ℕ) × (ℕ → ℕ) → (ℕ → ℕ) × (ℕ → ℕ) → Places
four x y = record { on_true = x.0; on_false = x.1; left = y.0; right = y.1 }

region_places : (size : ℕ → FlowNode → ℕ) (p : ℕ) (nodes : List FlowNode) (r : Region) → IsRegion size p nodes r
    → start_in r ≡ start_of size p 0 nodes
region_places size p nodes r is =
    fun_ext (λ (y : ℕ).
    ap₂ (λ (xs : List ℕ) (e : ℕ). get_or xs y e) is.starts is.end
    ∙ sym (starts_are_listed size p 0 nodes y y (omega arith)))

module _ (b : FlowBlock) (g : Guess) (s : Starts) (is : AreStarts b.nodes g s) where
  abbrev sure : Sure
  sure = sure_in_guess b.nodes g

  abbrev want : Want
  want = want_in_guess g

  at_falses : s.on_true.end ≡ falses sure want b
  at_falses = is.on_true.end

  at_lefts : s.on_false.end ≡ lefts sure want b
  at_lefts =
      is.on_false.end ∙ ap (λ (p : ℕ). end_of (guard_part_size want b.nodes sure false) p 0 b.nodes) at_falses

  at_rights : s.left.end ≡ rights sure want b
  at_rights = is.left.end ∙ ap (λ (p : ℕ). end_of (left_size sure want) p 0 b.nodes) at_lefts

  at_writes : s.right.end ≡ writes_at sure want b
  at_writes = is.right.end ∙ ap (λ (p : ℕ). end_of (right_size sure want) p 0 b.nodes) at_rights

  true_at : start_in s.on_true ≡ start_of (guard_part_size want b.nodes sure true) (trues sure want b) 0 b.nodes
  true_at = region_places (guard_part_size want b.nodes sure true) (length b.nodes) b.nodes s.on_true is.on_true

  false_at : start_in s.on_false ≡ start_of (guard_part_size want b.nodes sure false) (falses sure want b) 0 b.nodes
  false_at =
      region_places (guard_part_size want b.nodes sure false) s.on_true.end b.nodes s.on_false is.on_false
      ∙ ap (λ (p : ℕ). start_of (guard_part_size want b.nodes sure false) p 0 b.nodes) at_falses

  left_at : start_in s.left ≡ start_of (left_size sure want) (lefts sure want b) 0 b.nodes
  left_at =
      region_places (left_size sure want) s.on_false.end b.nodes s.left is.left
      ∙ ap (λ (p : ℕ). start_of (left_size sure want) p 0 b.nodes) at_lefts

  right_at : start_in s.right ≡ start_of (right_size sure want) (rights sure want b) 0 b.nodes
  right_at =
      region_places (right_size sure want) s.left.end b.nodes s.right is.right
      ∙ ap (λ (p : ℕ). start_of (right_size sure want) p 0 b.nodes) at_rights

  same_places : places_in s ≡ places sure want b
  same_places = ap₂ four (ap₂ pair true_at false_at) (ap₂ pair left_at right_at)

  same_cover : cover_in b.nodes g s ≡ cover sure want b
  same_cover = ap (cover_of b.nodes sure) same_places

  -- WHAT IS ADDED

  module _ {A : Type 0} (part : ℕ → ℕ → A → List FlowNode) (size : ℕ → A → ℕ)
      (fits : (p j : ℕ) (x : A) → length (part p j x) ≡ size j x) where
    -- a region behind what was emitted, and where the next one begins
    next_region : (old new : List FlowNode) (p : ℕ) (xs : List A) → length b.nodes + length old ≡ p
        → new ≡ old ++ region part size (length b.nodes + length old) 0 xs
        → (new ≡ old ++ region part size p 0 xs) × (length b.nodes + length new ≡ end_of size p 0 xs)
    next_region old new p xs e n =
        let m : new ≡ old ++ region part size p 0 xs = n ∙ ap (λ (q : ℕ). old ++ region part size q 0 xs) e in
        let f = region_end part size fits p 0 xs in
        let l = length-append old (region part size p 0 xs) in
        let k : length new ≡ length old + length (region part size p 0 xs) =
        ap (λ (ns : List FlowNode). length ns) m ∙ l in
        (m, omega (arith, e, f, k))

  numbers_same : (m p k : ℕ) → numbers_by sure (cover sure want b) b p k m ≡ numbers_part sure want b p k m
  numbers_same zero p k = refl
  numbers_same (suc m) p k =
      ap (λ (ns : List FlowNode). number_part sure want b p k ++ ns)
      (numbers_same m (p + number_size sure want b k) (suc k))

  all_same : all_numbers_by sure (cover sure want b) b (numbers_at sure want b) ≡ all_numbers sure want b
  unfolding all_numbers_by all_numbers
  all_same = numbers_same 32 (numbers_at sure want b) 0

  filled_same : (p j : ℕ) (ws : List FlowWrite)
      → all_filled_by sure (cover sure want b) p ws ≡ filled_all sure want b p j ws
  filled_same p j [] = refl
  filled_same p j (w ∷ ws) =
      ap (λ (rest : List FlowWrite). filled_by sure (cover sure want b) p w ∷ rest)
      (filled_same (p + write_size sure want b j w) (suc j) ws)

  all_are_filled : (ws : List FlowWrite) → ws ≡ all_filled_by sure (cover_in b.nodes g s) s.right.end b.writes
      → ws ≡ filled_all sure want b (writes_at sure want b) 0 b.writes
  all_are_filled ws e =
      e ∙ ap₂ (λ (c : Cover) (p : ℕ). all_filled_by sure c p b.writes) same_cover at_writes
      ∙ filled_same (writes_at sure want b) 0 b.writes

  six : {X : Type 0} (a c d e f h : List X)
      → (((((([] ++ a) ++ c) ++ d) ++ e) ++ f) ++ h) ≡ a ++ (c ++ (d ++ (e ++ (f ++ h))))
  six a c d e f h = simp append_assoc

  all_are_added : (zeroth one two three four five last : List FlowNode)
      → IsEmitted b g s b.nodes b.writes zeroth one two three four five last
      → last ≡ added sure want b
  all_are_added zeroth one two three four five last out =
      let K = cover sure want b in
      let z : length b.nodes + length zeroth ≡ trues sure want b = let l =
      ap (λ (ns : List FlowNode). length ns) out.start in omega (arith, l) in
      let a = next_region (guard_part want b.nodes K true) (guard_part_size want b.nodes sure true)
      (guard_part_length want b.nodes sure (places sure want b) true) zeroth one (trues sure want b) b.nodes z
      (out.on_true ∙ ap (λ (c : Cover). zeroth ++ region (guard_part want b.nodes c true)
      (guard_part_size want b.nodes sure true) (length b.nodes + length zeroth) 0 b.nodes) same_cover) in
      let c = next_region (guard_part want b.nodes K false) (guard_part_size want b.nodes sure false)
      (guard_part_length want b.nodes sure (places sure want b) false) one two (falses sure want b) b.nodes a.1
      (out.on_false ∙ ap (λ (c : Cover). one ++ region (guard_part want b.nodes c false)
      (guard_part_size want b.nodes sure false) (length b.nodes + length one) 0 b.nodes) same_cover) in
      let d = next_region (left_part sure want K) (left_size sure want) (left_length sure want K) two three
      (lefts sure want b) b.nodes c.1
      (out.left ∙ ap (λ (c : Cover). two ++ region (left_part sure want c) (left_size sure want)
      (length b.nodes + length two) 0 b.nodes) same_cover) in
      let e = next_region (right_part sure want K) (right_size sure want) (right_length sure want K) three four
      (rights sure want b) b.nodes d.1
      (out.right ∙ ap (λ (c : Cover). three ++ region (right_part sure want c) (right_size sure want)
      (length b.nodes + length three) 0 b.nodes) same_cover) in
      let f = next_region (write_part sure want b) (write_size sure want b) (write_length sure want b) four five
      (writes_at sure want b) b.writes e.1
      (out.written ∙ ap (λ (c : Cover). four ++ region (write_part_by sure c) (write_size_by sure)
      (length b.nodes + length four) 0 b.writes) same_cover) in
      let h : last ≡ five ++ all_numbers sure want b = out.stored
      ∙ ap₂ (λ (c : Cover) (p : ℕ). five ++ all_numbers_by sure c b p) same_cover f.1
      ∙ ap (λ (ns : List FlowNode). five ++ ns) all_same in
      h
      ∙ ap (λ (ns : List FlowNode). ns ++ all_numbers sure want b)
      (f.0 ∙ ap (λ (ns : List FlowNode). ns ++ writes_region sure want b)
      (e.0 ∙ ap (λ (ns : List FlowNode). ns ++ rights_region sure want b)
      (d.0 ∙ ap (λ (ns : List FlowNode). ns ++ lefts_region sure want b)
      (c.0 ∙ ap (λ (ns : List FlowNode). ns ++ falses_region sure want b)
      (a.0 ∙ ap (λ (ns : List FlowNode). ns ++ trues_region sure want b) out.start)))))
      ∙ six (trues_region sure want b) (falses_region sure want b) (lefts_region sure want b)
      (rights_region sure want b) (writes_region sure want b) (all_numbers sure want b)

  -- the same from slices of the block
  pub added_by_code : (ns : List FlowNode) (ws : List FlowWrite) (zeroth one two three four five last : List FlowNode)
      → ns ≡ b.nodes → ws ≡ b.writes
      → IsEmitted b g s ns ws zeroth one two three four five last → last ≡ added sure want b
  added_by_code ns ws zeroth one two three four five last e f out =
      all_are_added zeroth one two three four five last
      (subst (λ (w : List FlowWrite). IsEmitted b g s b.nodes w zeroth one two three four five last) f
      (subst (λ (n : List FlowNode). IsEmitted b g s n ws zeroth one two three four five last) e out))

  -- and so for the writes
  pub filled_by_code : (ns : List FlowNode) (ws found : List FlowWrite) → ns ≡ b.nodes → ws ≡ b.writes
      → found ≡ all_filled_by (sure_in_guess ns g) (cover_in ns g s) s.right.end ws
      → found ≡ filled_all sure want b (writes_at sure want b) 0 b.writes
  filled_by_code ns ws found e f out =
      all_are_filled found
      (subst (λ (w : List FlowWrite). found ≡ all_filled_by sure (cover_in b.nodes g s) s.right.end w) f
      (subst (λ (n : List FlowNode). found ≡ all_filled_by (sure_in_guess n g) (cover_in n g s) s.right.end ws) e
      out))

-- THE GUESS

module _ (b : FlowBlock) (g : Guess) (is : IsGuess b g) where
  same_sure : sure_in_guess b.nodes g ≡ sure_by b
  same_sure = ap (λ (f : List Bool). sure_of b.nodes (firm_of f)) is.firm

  same_want : want_in_guess g ≡ want_by b
  same_want =
      ap (λ (t : Bool). or_all t (firm_of g.wants)) is.closed
      ∙ ap (λ (ws : List Bool). or_all (is_closed (sure_in_guess b.nodes g) (firm_of ws) b) (firm_of ws)) is.wants
      ∙ ap (λ (S : Sure). or_all (is_closed S (firm_of (wants_of S b)) b) (firm_of (wants_of S b))) same_sure

  -- the completed block, by the lists of the code
  pub is_complete : (added_nodes : List FlowNode) (ws : List FlowWrite)
      → added_nodes ≡ added (sure_in_guess b.nodes g) (want_in_guess g) b
      → ws ≡ filled_all (sure_in_guess b.nodes g) (want_in_guess g) b
      (writes_at (sure_in_guess b.nodes g) (want_in_guess g) b) 0 b.writes
      → with_added b added_nodes ws ≡ complete b
  is_complete added_nodes ws e f =
      ap₂ (λ (ns : List FlowNode) (w : List FlowWrite). with_added b ns w) e f
      ∙ ap₂ (λ (S : Sure) (W : Want). completed S W b) same_sure same_want

-- the completed block, by what the code makes of slices of the block
pub whole_by_code : (b : FlowBlock) (g : Guess) (s : Starts) (ns : List FlowNode) (ws : List FlowWrite)
    (more : List FlowNode) (found : List FlowWrite) (whole : FlowBlock)
    → ns ≡ b.nodes → ws ≡ b.writes → IsGuess b g → AreStarts ns g s
    → (AreStarts b.nodes g s → more ≡ added (sure_in_guess b.nodes g) (want_in_guess g) b)
    → found ≡ all_filled_by (sure_in_guess ns g) (cover_in ns g s) s.right.end ws
    → whole ≡ with_added b more found → whole ≡ complete b
whole_by_code b g s ns ws more found whole e f guess at m w is =
    let starts : AreStarts b.nodes g s = subst (λ (n : List FlowNode). AreStarts n g s) e at in
    is ∙ is_complete b g guess more found (m starts) (filled_by_code b g s starts ns ws found e f w)

-- what is guessed, by what the code makes of slices of the block
pub guess_by_code : (b : FlowBlock) (firm found : List Bool) (closed : Bool) (ns : List FlowNode)
    (fs ds cs : List Bool)
    → ns ≡ b.nodes → fs ≡ firm → ds ≡ firm → cs ≡ found → firm ≡ firms ns
    → found ≡ wants_of (sure_of b.nodes (firm_of fs)) b
    → closed ≡ is_closed (sure_of b.nodes (firm_of ds)) (firm_of cs) b
    → IsGuess b (record { firm = firm; closed = closed; wants = found })
guess_by_code b firm found closed ns fs ds cs e f d c a w t = record {
  firm = a ∙ ap firms e;
  wants = w ∙ ap (λ (x : List Bool). wants_of (sure_of b.nodes (firm_of x)) b) f;
  closed = t ∙ ap₂ (λ (x y : List Bool). is_closed (sure_of b.nodes (firm_of x)) (firm_of y) b) d c;
}

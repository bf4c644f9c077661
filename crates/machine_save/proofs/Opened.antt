-- What opening answers: the image and the state that the bytes save, or their first fault.
use Rattle.std.proofs.Common.{◌≡◌, ℕ, ◌+◌, ◌<◌, ◌≤◌, List, [], ◌++◌, length, drop, Result, Ok, Err, All, slice_get}
use Rattle.std.proofs.Common.{get_or, inl, inr, refl, sym, ap, subst, ◌∙◌, arith}
use Rattle.std.specs.Prelude.{IfOk, IfErr, MatchResult}
use Rattle.std.specs.List.{flat_map}
use Rattle.std.proofs.lemmas.Option.{slice_get_within, get_or_from_slice_get}
use Rattle.byteorder.specs.Endian.{big_bytes}
use Rattle.trips_isa.specs.declared.block.Block.{Block}
use Rattle.trips_isa.specs.declared.block.Image.{Image}
use Rattle.trips_isa.specs.Images.{last_byte}
use Rattle.trips_isa.specs.Machine.{State, memory_of}
use Rattle.block_check.specs.declared.fault.CheckFault.{CheckFault}
use Rattle.block_check.specs.Faults.{IsGood}
use Rattle.block_check.specs.Images.{IsFirstBad}
use Rattle.block_image.specs.declared.fault.ImageFault as image_fault
use Rattle.block_image.specs.Spelling.{ImageBytes}
use Rattle.block_image.specs.FirstFault.{FirstFault}
use Rattle.block_image.proofs.Decoded as decoded
use Rattle.block_image.proofs.Prefix.{one_image}
use Rattle.machine_runs.proofs.Stored.{stored_is}
use Rattle.machine_save.specs.declared.fault.SaveFault.{SaveFault}
use Rattle.machine_save.specs.declared.fault.SaveFault.TheVariants as save
use Rattle.machine_save.specs.Spelling.{magic, head, listed, IsHead, IsFront, SaveBytes}
use Rattle.machine_save.specs.FirstFault.{FrontFault, ImagePartFault, no_image, bad_block, no_next, FirstSaveFault}
use Rattle.machine_save.specs.FirstFault.{in_front, in_image}
use Rattle.machine_save.specs.inside.Reading.{Lists, lists_of, front_at, next_in, registers_in, image_place}
use Rattle.machine_save.specs.inside.Opening.{IsMemory, IsMemoryOr}
use Rattle.machine_save.proofs.Steps.{ok_is, err_is}
use Rattle.machine_save.proofs.FrontLaws.{FrontAgain, front_again}
use Rattle.machine_save.proofs.FrontFaults.{front_fault_again}
use Rattle.machine_save.proofs.OneFault.{first_bad_once}

-- a state of these parts, with an empty trace
abbrev made : List ℕ → List ℕ → ℕ → List ℕ → List ℕ → State
made registers memory next rest output = record {
  registers = registers;
  memory = memory;
  next = next;
  rest = rest;
  output = output;
  trace = [];
}

same_made : (r s m n : List ℕ) (k l : ℕ) (e f o p : List ℕ) → r ≡ s → m ≡ n → k ≡ l → e ≡ f → o ≡ p
    → made r m k e o ≡ made s n l f p
same_made r s m n k l e f o p a b c d g =
    ap (λ (x : List ℕ). made x m k e o) a ∙ ap (λ (x : List ℕ). made s x k e o) b ∙ ap (λ (x : ℕ). made s n x e o) c
    ∙ ap (λ (x : List ℕ). made s n l x o) d ∙ ap (λ (x : List ℕ). made s n l f x) g

-- two readings of the same bytes ------------------------------------------------------------------

-- what stands before the image is there once, and so is what stands behind it
record OneFront (k l : ℕ) (rs ts : List ℕ) (x y : Lists) (p q : List ℕ) : Type 0 where
  pub next : k ≡ l
  pub registers : rs ≡ ts
  pub lists : x ≡ y
  pub part : p ≡ q

one_front : (bytes : List ℕ) (k l : ℕ) (rs ts o1 o2 m1 m2 r1 r2 p q : List ℕ) → IsFront bytes k rs o1 m1 r1 p
    → IsFront bytes l ts o2 m2 r2 q → OneFront k l rs ts (lists_of o1 m1 r1) (lists_of o2 m2 r2) p q
one_front bytes k l rs ts o1 o2 m1 m2 r1 r2 p q a b =
    let x = front_again bytes k rs o1 m1 r1 p a in
    let y = front_again bytes l ts o2 m2 r2 q b in
    let same : lists_of o1 m1 r1 ≡ lists_of o2 m2 r2 =
    ok_is (lists_of o1 m1 r1) (lists_of o2 m2 r2) (sym x.reads ∙ y.reads) in
    record {
      next = x.next_is ∙ sym y.next_is;
      registers = x.registers_are ∙ sym y.registers_are;
      lists = same;
      part = sym x.part_is ∙ ap (λ (z : Lists). drop (image_place z) bytes) same ∙ y.part_is;
    }

-- bytes save one image and one state, but for its trace
pub record SavedOnce (i j : Image) (s t : State) : Type 0 where
  pub image : i ≡ j
  pub state : record s { trace = [] } ≡ record t { trace = [] }

pub saved_once : (i j : Image) (s t : State) (bytes : List ℕ) → SaveBytes i s bytes → SaveBytes j t bytes
    → SavedOnce i j s t
saved_once i j s t bytes a b =
    let one = one_front bytes s.next t.next s.registers t.registers s.output t.output a.stored b.stored s.rest t.rest
    a.part b.part a.front b.front in
    let memory : s.memory ≡ t.memory =
    a.memory ∙ ap (λ (l : Lists). memory_of l.stored) one.lists ∙ sym b.memory in
    record {
      image = one_image i j a.part a.is_image (subst (ImageBytes j) (sym one.part) b.is_image);
      state = same_made s.registers t.registers s.memory t.memory s.next t.next s.rest t.rest s.output t.output
          one.registers memory one.next (ap (λ (l : Lists). l.rest) one.lists)
          (ap (λ (l : Lists). l.output) one.lists);
    }

-- and an image and a state have one spelling
pub one_spelling : (i : Image) (s t : State) (bytes others : List ℕ) → SaveBytes i s bytes → SaveBytes i t others
    → record s { trace = [] } ≡ record t { trace = [] } → bytes ≡ others
one_spelling i s t bytes others a b e =
    let memory : memory_of a.stored ≡ memory_of b.stored =
    sym a.memory ∙ ap (λ (x : State). x.memory) e ∙ b.memory in
    let stored : a.stored ≡ b.stored =
    stored_is a.stored b.stored (a.front).last (b.front).last memory in
    let part : a.part ≡ b.part = (a.is_image).spelled ∙ sym (b.is_image).spelled in
    ((a.front).spelled).spelled
    ∙ ap (λ (x : State). head x.next x.registers (listed x.output (listed a.stored (listed x.rest a.part)))) e
    ∙ ap (λ (x : List ℕ). head t.next t.registers (listed t.output (listed x (listed t.rest a.part)))) stored
    ∙ ap (λ (x : List ℕ). head t.next t.registers (listed t.output (listed b.stored (listed t.rest x)))) part
    ∙ sym ((b.front).spelled).spelled

-- faults ------------------------------------------------------------------------------------------

-- a block with a fault is not among good ones
good_has_none : (image : Image) (number : ℕ) (f : CheckFault) → All IsGood image.blocks
    → IsFirstBad image number f → ⊥
good_has_none image number f good bad =
    let there : number < length image.blocks =
    slice_get_within image.blocks number bad.block bad.is_block in
    let is : get_or image.blocks number bad.block ≡ bad.block =
    get_or_from_slice_get image.blocks number bad.block bad.block bad.is_block in
    let fine : IsGood bad.block = subst IsGood is (good number bad.block there) in
    fine f bad.has.holds

-- what stands behind the state has no fault where it is an image of good blocks with the next one
no_part_fault : (next : ℕ) (part : List ℕ) (i : Image) (f : SaveFault) → ImageBytes i part → All IsGood i.blocks
    → next < length i.blocks → ImagePartFault next part f → ⊥
no_part_fault next part i f is good l g = elim g as (λ f g. ⊥) [
  | no_image f h ↦ decoded.not_both i part f is h
  | bad_block image number f spelled bad ↦ good_has_none i number f good
      (subst (λ (x : Image). IsFirstBad x number f) (one_image image i part spelled is) bad)
  | no_next image spelled fine le ↦
      let same : length image.blocks ≡ length i.blocks =
      ap (λ (x : Image). length x.blocks) (one_image image i part spelled is) in
      omega (arith, same, le, l)
]

-- and it has one
one_part_fault : (next : ℕ) (part : List ℕ) (f g : SaveFault) → ImagePartFault next part f
    → ImagePartFault next part g → f ≡ g
one_part_fault next part f g x = (elim x as (λ f x. (g : SaveFault) → ImagePartFault next part g → f ≡ g) [
  | no_image f h ↦ λ g y. elim y as (λ g y. save.Image f ≡ g) [
    | no_image g k ↦ ap (λ (d : image_fault.ImageFault). save.Image d) (decoded.one_fault part f g h k)
    | bad_block j n g is bad ↦ absurd (decoded.not_both j part f is h)
    | no_next j is good l ↦ absurd (decoded.not_both j part f is h)
  ]
  | bad_block i m f is bad ↦ λ g y. elim y as (λ g y. save.Bad m f ≡ g) [
    | no_image g k ↦ absurd (decoded.not_both i part g is k)
    | bad_block j n g it worse ↦
        let once = first_bad_once i m n f g is.fits bad
        (subst (λ (x : Image). IsFirstBad x n g) (one_image j i part it is) worse) in
        ap (λ (k : ℕ). save.Bad k f) once.0 ∙ ap (λ (d : CheckFault). save.Bad n d) once.1
    | no_next j it good l ↦
        absurd (good_has_none j m f good (subst (λ (x : Image). IsFirstBad x m f) (one_image i j part is it) bad))
  ]
  | no_next i is good l ↦ λ g y. elim y as (λ g y. save.BadField 12 ≡ g) [
    | no_image g k ↦ absurd (decoded.not_both i part g is k)
    | bad_block j n g it bad ↦
        absurd (good_has_none i n g good (subst (λ (x : Image). IsFirstBad x n g) (one_image j i part it is) bad))
    | no_next j it fine m ↦ refl
  ]
]) g

-- bytes that save something have no fault
front_not_both : (bytes : List ℕ) (k : ℕ) (rs o m r p : List ℕ) (f : SaveFault) → IsFront bytes k rs o m r p
    → FrontFault bytes f → ⊥
front_not_both bytes k rs o m r p f a h =
    let x = front_again bytes k rs o m r p a in
    let bad : ◌≡◌ {A = Result Lists SaveFault} (Ok (lists_of o m r)) (Err f) =
    sym x.reads ∙ front_fault_again bytes f h in cc

pub not_both : (i : Image) (s : State) (bytes : List ℕ) (f : SaveFault) → SaveBytes i s bytes
    → FirstSaveFault bytes f → ⊥
not_both i s bytes f a g = elim g as (λ f g. ⊥) [
  | in_front f h ↦ front_not_both bytes s.next s.registers s.output a.stored s.rest a.part f a.front h
  | in_image next rs o m r part f is h ↦
      let one = one_front bytes next s.next rs s.registers o s.output m a.stored r s.rest part a.part is a.front in
      no_part_fault next part i f (subst (ImageBytes i) (sym one.part) a.is_image) a.good
      (subst (λ (k : ℕ). k < length i.blocks) (sym one.next) a.inside) h
]

-- and bytes have one first fault
pub one_fault : (bytes : List ℕ) (f g : SaveFault) → FirstSaveFault bytes f → FirstSaveFault bytes g → f ≡ g
one_fault bytes f g x = (elim x as (λ f x. (g : SaveFault) → FirstSaveFault bytes g → f ≡ g) [
  | in_front f h ↦ λ g y. elim y as (λ g y. f ≡ g) [
    | in_front g k ↦ err_is {A = Lists} f g (sym (front_fault_again bytes f h) ∙ front_fault_again bytes g k)
    | in_image next rs o m r part g is k ↦ absurd (front_not_both bytes next rs o m r part f is h)
  ]
  | in_image n1 rs o1 m1 r1 p1 f a h ↦ λ g y. elim y as (λ g y. f ≡ g) [
    | in_front g k ↦ absurd (front_not_both bytes n1 rs o1 m1 r1 p1 g a k)
    | in_image n2 ts o2 m2 r2 p2 g b k ↦
        let one = one_front bytes n1 n2 rs ts o1 o2 m1 m2 r1 r2 p1 p2 a b in
        one_part_fault n1 p1 f g h
        (subst (λ (n : ℕ). ImagePartFault n p1 g) (sym one.next)
        (subst (λ (p : List ℕ). ImagePartFault n2 p g) (sym one.part) k))
  ]
]) g

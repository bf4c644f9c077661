-- A text that is read as an image is the text of that image.
use Rattle.std.proofs.Common.{◌≡◌, ℕ, ◌+◌, ◌≤◌, List, [], ◌∷◌, ◌++◌, length}
use Rattle.std.proofs.Common.{refl, sym, ap, subst, ◌∙◌, arith, true, Option}
use Rattle.std.specs.Prelude.{ℤ, not, Result, Ok, Err, All, ◌↔◌}
use Rattle.std.specs.List.{sum_by}
use Rattle.trips_isa.specs.declared.block.Block.{Block}
use Rattle.trips_isa.specs.declared.block.Image.{Image}
use Rattle.trips_isa.specs.Fits.{FitsBlock}
use Rattle.trips_isa.specs.Images.{chunks}
use Rattle.trips_isa.specs.Limits.{most_chunks}
use Rattle.target_asm_spec.specs.Numbers.{numbered}
use Rattle.target_asm_spec.specs.Text.{goal_of}
use Rattle.target_asm_spec.specs.Text.{byte_text, head_lines, block_in, TargetText}
use Rattle.target_asm_spec.proofs.Starts.{goals_agree}
use Rattle.target_asm_spec.specs.declared.fault.AsmFault.{AsmFault}
use Rattle.target_asm_spec.specs.declared.fault.AsmFault.TheVariants.{Syntax}
use Rattle.target_asm_spec.specs.inside.Blocks.{wants}
use Rattle.target_asm_spec.specs.inside.Whole.{is_empty, front_in, data_lines, data_in, begins_of, unknown}
use Rattle.target_asm_spec.specs.inside.Whole.{body_in, image_in}
use Rattle.target_asm_spec.proofs.Images.{read_again}
use Rattle.target_asm_laws.proofs.Binds.{Holds, chain, wanted}
use Rattle.target_asm_laws.proofs.Slots.{goals}
use Rattle.target_asm_laws.proofs.Bodies.{texts_from, AreBlocks, blocks_are, all_of}
use Rattle.target_asm_laws.proofs.Twice.{SameChunks, blocks_same, agrees, same_begins}
use Rattle.target_asm_laws.proofs.Data.{IsFront, front_is, Byte, IsData, data_is}
use Rattle.target_asm_laws.proofs.Tables.{told, few_are, texts_are}

-- what the first reading of blocks gave
pub record IsFirst (line : ℕ) (text : List ℕ) (first : List Block) : Type 0 where
  pub is : body_in unknown line text ≡ Ok first
  pub few : length first ≤ 262145

first_by : (line : ℕ) (text : List ℕ) (r : Result (List Block) AsmFault)
    → body_in unknown line text ≡ r → Holds (λ bs. length bs ≤ 262145) r
    → Holds (IsFirst line text) r
first_by line text (Ok bs) e h = record { is = e; few = h }
first_by line text (Err d) e h = tt

first_is : (line : ℕ) (text : List ℕ) → Holds (IsFirst line text) (body_in unknown line text)
unfolding body_in
first_is line text = first_by line text (body_in unknown line text) refl
    (few_are unknown 262145 0 0 line text)

-- what the second reading gives
pub record IsSecond (text : List ℕ) (first bs : List Block) : Type 0 where
  pub read : AreBlocks (begins_of first) 0 0 text bs
  pub same : SameChunks first bs

second_by : (text : List ℕ) (first : List Block) (r : Result (List Block) AsmFault)
    → Holds (AreBlocks (begins_of first) 0 0 text) r → Holds (SameChunks first) r
    → Holds (IsSecond text first) r
second_by text first (Ok bs) p q = record { read = p; same = q }
second_by text first (Err d) p q = tt

second_is : (line : ℕ) (text : List ℕ) (first : List Block) → IsFirst line text first
    → Holds (IsSecond text first) (body_in (begins_of first) line text)
unfolding body_in
second_is line text first f =
    second_by text first (body_in (begins_of first) line text)
    (blocks_are (begins_of first) (told first (omega (arith, f.few))) 262145 0 0 line text
    (omega arith) (omega arith))
    (agrees SameChunks (body_in unknown line text) (body_in (begins_of first) line text) first f.is
    (blocks_same unknown (begins_of first) 262145 0 0 line text))

-- a text of blocks that is not empty has a block
some_block : (goal : ℤ → Option ℕ) (text : List ℕ) (bs : List Block)
    → not (is_empty text) ≡ true → text ≡ texts_from goal 0 0 bs → 1 ≤ length bs
some_block goal text [] e t =
    absurd (nothing (subst (λ (x : List ℕ). not (is_empty x) ≡ true) t e))
  where
    nothing : not (is_empty []) ≡ true → ⊥
    nothing e = absurd cc
some_block goal text (b ∷ bs) e t = omega arith

-- the goals of the text are those of its blocks
goals_are : (first bs : List Block) → SameChunks first bs
    → goals (begins_of first) ≡ goal_of bs
goals_are first bs h =
    let told_by : goals (begins_of first) ≡ goals (begins_of bs) =
    ap goals (same_begins first bs h) in
    let agree : goals (begins_of bs) ≡ goal_of bs = λ i z. goals_agree bs z i in
    told_by ∙ agree

block_texts : (text : List ℕ) (first bs : List Block) → IsSecond text first bs
    → text ≡ numbered (block_in bs) 0 bs
block_texts text first bs s =
    s.read.is ∙ ap (λ (g : ℤ → Option ℕ). texts_from g 0 0 bs) (goals_are first bs s.same)
    ∙ texts_are bs 0 0 [] bs refl refl refl

abbrev pub IsText : List ℕ → Image → Type 0
IsText text i = TargetText i text

whole_by : (text t u : List ℕ) (count : ℕ) (bytes : List ℕ) (first bs : List Block)
    → IsFront text (count, t) → IsData count t (bytes, u) → not (is_empty u) ≡ true
    → IsSecond u first bs → IsText text (record { blocks = bs; bytes = bytes })
whole_by text t u count bytes first bs f d e s =
    let size : length bytes ≡ count = d.bytes.size in
    let total : 0 + sum_by chunks bs ≤ most_chunks = s.read.total in
    record {
      fits = record {
        some = some_block (goals (begins_of first)) u bs e s.read.is;
        each = all_of FitsBlock bs s.read.each;
        total = omega (arith, total);
        few = omega (arith, size, f.few);
        bytes = all_of Byte bytes d.bytes.each;
        last = d.last;
      };
      spelled =
          f.is ∙ ap (λ (x : List ℕ). head_lines count ++ x) (d.bytes.is
          ∙ ap (λ (x : List ℕ). numbered (byte_text count) 0 bytes ++ x)
          (block_texts u first bs s))
          ∙ ap (λ (n : ℕ). head_lines n ++ (numbered (byte_text n) 0 bytes
          ++ numbered (block_in bs) 0 bs)) (sym size);
    }

pub image_is : (text : List ℕ) → Holds (IsText text) (image_in text)
unfolding image_in
image_is text =
    chain (IsFront text) (IsText text) (front_in text) _ (front_is text) (λ f a.
    chain (IsData f.0 f.1) (IsText text) (data_in f.0 f.1) _ (data_is f.0 f.1) (λ d b.
    let line : ℕ = 3 + data_lines f.0 in
    chain (λ u. not (is_empty d.1) ≡ true) (IsText text)
    (wants (not (is_empty d.1)) (Syntax (3 + data_lines f.0))) _
    (wanted (not (is_empty d.1)) (Syntax (3 + data_lines f.0))) (λ u e.
    chain (IsFirst line d.1) (IsText text) (body_in unknown line d.1) _ (first_is line d.1)
    (λ first g.
    chain (IsSecond d.1 first) (IsText text) (body_in (begins_of first) line d.1) _
    (second_is line d.1 first g) (λ blocks s.
    whole_by text f.1 d.1 f.0 d.0 first blocks a b e s)))))

pub read_is : (text : List ℕ) (i : Image) → image_in text ≡ Ok i → IsText text i
read_is text i e = subst (Holds (IsText text)) e (image_is text)

-- a text that is read as an image is the text of this image
pub exact : (text : List ℕ) (i : Image) → image_in text ≡ Ok i → TargetText i text
exact text i e = read_is text i e

-- and the text of an image is read as that image
pub both_ways : (text : List ℕ) (i : Image) → (image_in text ≡ Ok i) ↔ TargetText i text
both_ways text i = (read_is text i, read_again i text)

-- One thing is told of a file, under its name.
use Rattle.std.proofs.Common.{◌≡◌, ◌⊎◌, inl, inr, ℕ, ◌<◌, List, ◌++◌, Option, None, Some, length, All, get_or}
use Rattle.std.proofs.Common.{ap, sym, subst, ◌∙◌}
use Rattle.std.proofs.lemmas.Option.{slice_get_within, get_or_from_slice_get}
use Rattle.trips_isa.specs.declared.block.Image.{Image}
use Rattle.block_image.specs.Spelling.{ImageBytes}
use Rattle.block_image.proofs.Decoded as decoded
use Rattle.block_image.proofs.Prefix.{one_image}
use Rattle.block_check.specs.declared.fault.CheckFault.{CheckFault}
use Rattle.block_check.specs.Faults.{IsGood}
use Rattle.block_check.specs.Images.{IsFirstBad}
use Rattle.target_file.proofs.Laws as files
use Rattle.trips_isa.specs.Images.{FitsImage}
use Rattle.c_tree.specs.declared.tree.Program.{Program}
use Rattle.c_tree.specs.declared.typed.TypedProgram.{TypedProgram}
use Rattle.c_lex.specs.Lexes.{Tokens}
use Rattle.c_type_expr.specs.declared.fault.TypeFault.{TypeFault}
use Rattle.c_lex.proofs.Once.{lexes_once}
use Rattle.c_front.specs.declared.refusal.Refusal.{Refusal}
use Rattle.c_front.specs.declared.refusal.Refusal.TheVariants.{Lex, Directive, Parse, Typing, Memory}
use Rattle.c_front.specs.Fronts.{HasTree, HasTypes}
use Rattle.c_front.proofs.Once.{not_both, accepted_once, refused_once, tree_once}
use Rattle.trips_explain_endings.specs.Definitions.{definitions_of}
use Rattle.trips_explain_answers.specs.declared.shape.Shape.{Shape}
use Rattle.trips_explain_answers.specs.declared.shape.Shape.TheVariants.{Source, Target, Image as Picture}
use Rattle.trips_explain_answers.specs.Told.{refusal_told}
use Rattle.trips_explain_answers.specs.FileTold.{image_told, asm_told, check_told, good_told, instructions_in}
use Rattle.trips_explain_answers.specs.Files.{IsBadTold, IsGoodTold}
use Rattle.trips_explain_answers.specs.Files.{IsImageRefusalTold, IsImageAcceptedTold}
use Rattle.trips_explain_answers.specs.Files.{IsTargetRefusalTold, IsTargetAcceptedTold}
use Rattle.trips_explain_answers.specs.Further.{place_of}
use Rattle.trips_explain_answers.specs.Evaluated.{evaluated_told}
use Rattle.trips_explain_answers.specs.Explained.{IsTextRefusalTold, IsTextAcceptedTold, IsSeen, accepted_told}
use Rattle.trips_explain_answers.specs.Explained.{IsBehind, IsBehindFault, typing_of}
use Rattle.trips_explain_answers.specs.Explained.{IsRefusalOf, IsAcceptedOf, IsRefusalTold, IsAcceptedTold}
use Rattle.trips_explain_answers.specs.Explained.{shape_named}
use Rattle.trips_explain_answers.proofs.OneFault.{first_bad_once}
use Rattle.trips_explain_answers.proofs.FurtherFacts.{more_once}

-- texts ---------------------------------------------------------------------------------------

-- a refusal sees one list of tokens
seen_once : (r : Refusal) (text : List ℕ) (a b : Tokens) → IsSeen r text a → IsSeen r text b → a ≡ b
seen_once (Lex e) text a b x y = x ∙ sym y
seen_once (Directive e) text a b x y = lexes_once text a b x.0 y.0
seen_once (Parse e) text a b x y = lexes_once text a b x.0 y.0
seen_once (Typing e) text a b x y = lexes_once text a b x.0 y.0
seen_once Memory text a b x y = lexes_once text a b x.0 y.0

-- so much is told behind it
behind_fault_once : (file text : List ℕ) (ts : Tokens) (e : Option TypeFault) (a b : List ℕ)
    → IsBehindFault file text ts e a → IsBehindFault file text ts e b → a ≡ b
behind_fault_once file text ts None a b x y = x ∙ sym y
behind_fault_once file text ts (Some e) a b x y = more_once file text ts (place_of e) a b x y

text_refusal_once : (file text a b : List ℕ) → IsTextRefusalTold file text a → IsTextRefusalTold file text b → a ≡ b
text_refusal_once file text a b x y =
    let one : x.0 ≡ y.0 = refused_once text x.0 y.0 x.1 y.1 in
    let seen : IsSeen y.0 text x.2 = subst (λ (r : Refusal). IsSeen r text x.2) one x.3 in
    let tokens : x.2 ≡ y.2 = seen_once y.0 text x.2 y.2 seen y.3 in
    let behind : IsBehind file text y.2 y.0 x.4 =
    subst (λ (ts : Tokens). IsBehind file text ts y.0 x.4) tokens
    (subst (λ (r : Refusal). IsBehind file text x.2 r x.4) one x.5) in
    let more : x.4 ≡ y.4 = behind_fault_once file text y.2 (typing_of y.0) x.4 y.4 behind y.5 in
    x.6 ∙ ap (λ (r : Refusal). refusal_told file text x.2 r ++ x.4) one
    ∙ ap (λ (ts : Tokens). refusal_told file text ts y.0 ++ x.4) tokens
    ∙ ap (λ (t : List ℕ). refusal_told file text y.2 y.0 ++ t) more ∙ sym y.6

-- a tree has one typed program, as its text has
typed_once : (text : List ℕ) (t u : Program) (p q : TypedProgram) → HasTree text t → HasTree text u → HasTypes t p
    → HasTypes u q → p ≡ q
typed_once text t u p q a b x y = accepted_once text p q (t, a, x) (u, b, y)

-- what is told of a text by its tree, its program and its tokens, with an input and so many steps
text_told : List ℕ → List ℕ → List ℕ → ℕ → Program → TypedProgram → Tokens → List ℕ
text_told file text input most tree program tokens = accepted_told file text program tokens
    ++ evaluated_told file text (definitions_of tree.items) program input most

text_accepted_once : (file text input : List ℕ) (most : ℕ) (a b : List ℕ)
    → IsTextAcceptedTold file text input most a → IsTextAcceptedTold file text input most b → a ≡ b
unfolding text_told
text_accepted_once file text input most a b x y =
    x.6 ∙ ap (λ (t : Program). text_told file text input most t x.2 x.4) (tree_once text x.0 y.0 x.1 y.1)
    ∙ ap (λ (p : TypedProgram). text_told file text input most y.0 p x.4)
    (typed_once text x.0 y.0 x.2 y.2 x.1 y.1 x.3 y.3)
    ∙ ap (λ (ts : Tokens). text_told file text input most y.0 y.2 ts) (lexes_once text x.4 y.4 x.5.0 y.5.0)
    ∙ sym y.6

-- images --------------------------------------------------------------------------------------

bad_once : (file : List ℕ) (i j : Image) (a b : List ℕ) → FitsImage i → j ≡ i → IsBadTold file i a
    → IsBadTold file j b → a ≡ b
bad_once file i j a b fits same x y =
    let again = subst (λ (k : Image). IsFirstBad k y.0 y.1) same y.2 in
    let one = first_bad_once i x.0 y.0 x.1 y.1 fits x.2 again in
    x.3 ∙ ap (λ (n : ℕ). check_told file n x.1) one.0 ∙ ap (check_told file y.0) one.1 ∙ sym y.3

good_once : (file : List ℕ) (i j : Image) (a b : List ℕ) → i ≡ j → IsGoodTold file i a → IsGoodTold file j b → a ≡ b
good_once file i j a b same x y =
    x.1 ∙ ap (λ (k : Image). good_told file (length k.blocks) (instructions_in k.blocks)) same ∙ sym y.1

good_is_not_bad : (file : List ℕ) (i j : Image) (a b : List ℕ) → j ≡ i → IsGoodTold file i a → IsBadTold file j b → ⊥
good_is_not_bad file i j a b same good bad =
    let again : IsFirstBad i bad.0 bad.1 = subst (λ (k : Image). IsFirstBad k bad.0 bad.1) same bad.2 in
    let within : bad.0 < length i.blocks = slice_get_within i.blocks bad.0 again.block again.is_block in
    let is : get_or i.blocks bad.0 again.block ≡ again.block =
    get_or_from_slice_get i.blocks bad.0 again.block again.block again.is_block in
    subst IsGood is (good.0 bad.0 again.block within) bad.1 again.has.holds

image_refusal_once : (file bytes a b : List ℕ) → IsImageRefusalTold file bytes a → IsImageRefusalTold file bytes b
    → a ≡ b
image_refusal_once file bytes a b (inl x) (inl y) =
    x.2 ∙ ap (image_told file) (decoded.one_fault bytes x.0 y.0 x.1 y.1) ∙ sym y.2
image_refusal_once file bytes a b (inl x) (inr y) = absurd (decoded.not_both y.0 bytes x.0 y.1 x.1)
image_refusal_once file bytes a b (inr x) (inl y) = absurd (decoded.not_both x.0 bytes y.0 x.1 y.1)
image_refusal_once file bytes a b (inr x) (inr y) =
    bad_once file x.0 y.0 a b x.1.fits (one_image y.0 x.0 bytes y.1 x.1) x.2 y.2

image_not_both : (file bytes a b : List ℕ) → IsImageAcceptedTold file bytes a → IsImageRefusalTold file bytes b → ⊥
image_not_both file bytes a b x (inl y) = decoded.not_both x.0 bytes y.0 x.1 y.1
image_not_both file bytes a b x (inr y) =
    good_is_not_bad file x.0 y.0 a b (one_image y.0 x.0 bytes y.1 x.1) x.2 y.2

-- target texts --------------------------------------------------------------------------------

target_refusal_once : (file text a b : List ℕ) → IsTargetRefusalTold file text a → IsTargetRefusalTold file text b
    → a ≡ b
target_refusal_once file text a b (inl x) (inl y) =
    x.2 ∙ ap (asm_told file) (files.one_fault text x.0 y.0 x.1 y.1) ∙ sym y.2
target_refusal_once file text a b (inl x) (inr y) = absurd (files.not_both y.0 text x.0 y.1 x.1)
target_refusal_once file text a b (inr x) (inl y) = absurd (files.not_both x.0 text y.0 x.1 y.1)
target_refusal_once file text a b (inr x) (inr y) =
    bad_once file x.0 y.0 a b x.1.fits (files.one_image y.0 x.0 text y.1 x.1) x.2 y.2

target_not_both : (file text a b : List ℕ) → IsTargetAcceptedTold file text a → IsTargetRefusalTold file text b → ⊥
target_not_both file text a b x (inl y) = files.not_both x.0 text y.0 x.1 y.1
target_not_both file text a b x (inr y) =
    good_is_not_bad file x.0 y.0 a b (files.one_image y.0 x.0 text y.1 x.1) x.2 y.2

-- files ---------------------------------------------------------------------------------------

refusal_once : (how : Shape) (file bytes a b : List ℕ) → IsRefusalOf how file bytes a → IsRefusalOf how file bytes b
    → a ≡ b
refusal_once Source file bytes a b x y = text_refusal_once file bytes a b x y
refusal_once Target file bytes a b x y = target_refusal_once file bytes a b x y
refusal_once Picture file bytes a b x y = image_refusal_once file bytes a b x y

accepted_one : (how : Shape) (file bytes input : List ℕ) (most : ℕ) (a b : List ℕ)
    → IsAcceptedOf how file bytes input most a → IsAcceptedOf how file bytes input most b → a ≡ b
accepted_one Source file bytes input most a b x y = text_accepted_once file bytes input most a b x y
accepted_one Target file bytes input most a b x y =
    good_once file x.0 y.0 a b (files.one_image x.0 y.0 bytes x.1 y.1) x.2 y.2
accepted_one Picture file bytes input most a b x y =
    good_once file x.0 y.0 a b (one_image x.0 y.0 bytes x.1 y.1) x.2 y.2

not_both_of : (how : Shape) (file bytes input : List ℕ) (most : ℕ) (a b : List ℕ)
    → IsAcceptedOf how file bytes input most a → IsRefusalOf how file bytes b → ⊥
not_both_of Source file bytes input most a b x y = not_both bytes x.2 y.0 (x.0, x.1, x.3) y.1
not_both_of Target file bytes input most a b x y = target_not_both file bytes a b x y
not_both_of Picture file bytes input most a b x y = image_not_both file bytes a b x y

-- of a file that is refused
pub refusal_told_once : (file bytes a b : List ℕ) → IsRefusalTold file bytes a → IsRefusalTold file bytes b → a ≡ b
refusal_told_once file bytes a b x y = refusal_once (shape_named file) file bytes a b x y

-- of a file that is accepted, with one input and so many steps
pub accepted_told_once : (file bytes input : List ℕ) (most : ℕ) (a b : List ℕ)
    → IsAcceptedTold file bytes input most a → IsAcceptedTold file bytes input most b → a ≡ b
accepted_told_once file bytes input most a b x y = accepted_one (shape_named file) file bytes input most a b x y

-- no file is both
pub not_both_told : (file bytes input : List ℕ) (most : ℕ) (a b : List ℕ)
    → IsAcceptedTold file bytes input most a → IsRefusalTold file bytes b → ⊥
not_both_told file bytes input most a b x y = not_both_of (shape_named file) file bytes input most a b x y

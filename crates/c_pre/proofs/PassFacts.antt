-- Tokens that no pass would change stay; what holds of each token holds of each that the passes give; and these are
-- few. A further pass is one line more in each proof.
use Rattle.std.proofs.Common.{◌≡◌, ◌≤◌, ℕ, Bool, true, false, not, [], ◌∷◌, length, refl, subst, ap, ◌∙◌}
use Rattle.std.specs.Prelude.{◌&&◌, Result, Ok, Err}
use Rattle.c_tree.specs.declared.Form.{Form}
use Rattle.c_tree.specs.declared.Form.TheVariants as form
use Rattle.c_tree.specs.declared.Key.TheVariants as key
use Rattle.c_lex.specs.Lexes.{Tokens}
use Rattle.c_lex.proofs.Basics.{and_both, and_left, and_right}
use Rattle.c_library.specs.declared.fault.LibraryFault.{LibraryFault}
use Rattle.c_library.specs.Prepared.{prepared, is_prepared}
use Rattle.c_library.specs.Within.{◌>>=◌, within}
use Rattle.c_library.proofs.Holds.{Fact, EachToken, Allows}
use Rattle.c_library.proofs.PreparedFacts.{prepared_stays, prepared_keeps}
use Rattle.c_library.proofs.Puts.{few_stay, within_is, within_few}
use Rattle.c_locals.specs.Objects.{with_objects, has_no_objects}
use Rattle.c_locals.proofs.ObjectFacts.{objects_stay, objects_keep}
use Rattle.c_names.specs.Named.{named, has_no_name}
use Rattle.c_names.specs.Named.{stays as name_stays}
use Rattle.c_names.proofs.Kept.{named_stays, named_keeps}
use Rattle.c_pre.specs.Passes.{pass, passed, is_passed}
use Rattle.c_sizes.specs.Operands.{is_sizeof}
use Rattle.c_sizes.specs.Sized.{sized, is_sized}
use Rattle.c_sizes.proofs.SizedFacts.{sized_stays, sized_keeps}
use Rattle.c_units.specs.Settled.{settled, is_settled}
use Rattle.c_units.proofs.SettledFacts.{settled_stays, settled_keeps}
use Rattle.c_words.specs.Unworded.{has_no_words}
use Rattle.c_words.specs.Worded.{worded}
use Rattle.c_words.proofs.WordedFacts.{worded_stays, worded_keeps}

-- what a pass gives, or a fault
abbrev Given : Type 0
Given = Result Tokens LibraryFault

-- a pass
abbrev Step : Type 0
Step = Tokens → Given

-- STAYING

-- a pass that changes nothing gives the tokens, where these are few
stays : (f : Tokens → Tokens) (most : ℕ) (ts : Tokens) → length ts ≤ most → f ts ≡ ts → pass f most ts ≡ Ok ts
stays f most ts few e = ap (λ (us : Tokens). within most us) e ∙ few_stay most ts few

-- one step more, which changes nothing either
and_stays : (m : Given) (f : Step) (ts : Tokens) → m ≡ Ok ts → f ts ≡ Ok ts → (m >>= f) ≡ Ok ts
and_stays m f ts e h = ap (λ (r : Given). r >>= f) e ∙ h

-- the tests of the passes, each by itself
record Tests (ts : Tokens) : Type 0 where
  names : has_no_name ts ≡ true
  words : has_no_words ts ≡ true
  library : is_prepared ts ≡ true
  sizes : is_sized ts ≡ true
  units : is_settled ts ≡ true
  objects : has_no_objects ts ≡ true

tests : (ts : Tokens) → is_passed ts ≡ true → Tests ts
tests ts e =
    let a = and_right (has_no_name ts) _ e in
    let b = and_right (has_no_words ts) _ a in
    let c = and_right (is_prepared ts) _ b in
    let d = and_right (is_sized ts) _ c in
    record {
      names = and_left (has_no_name ts) _ e;
      words = and_left (has_no_words ts) _ a;
      library = and_left (is_prepared ts) _ b;
      sizes = and_left (is_sized ts) _ c;
      units = and_left (is_settled ts) _ d;
      objects = and_right (is_settled ts) _ d;
    }

-- a keyword that stays behind the pass of names is not `sizeof`
no_size : (f : Form) → name_stays f ≡ true → not (is_sizeof f) ≡ true
no_size (form.Key key.Sizeof) e = absurd (cc)
no_size (form.Key _) e = refl
no_size (form.Name w) e = refl
no_size (form.Number v k) e = refl
no_size (form.Mark m) e = refl
no_size form.Include e = refl

-- so the test of the first pass is that of the sizes too
pub no_sizes : (ts : Tokens) → has_no_name ts ≡ true → is_sized ts ≡ true
no_sizes [] e = refl
no_sizes (t ∷ ts) e =
    and_both (not (is_sizeof t.form)) (is_sized ts)
    (no_size t.form (and_left (name_stays t.form) (has_no_name ts) e))
    (no_sizes ts (and_right (name_stays t.form) (has_no_name ts) e))

-- tokens that no pass would change stay
pub passed_stays : (most : ℕ) (ts : Tokens) → is_passed ts ≡ true → length ts ≤ most → passed most ts ≡ Ok ts
passed_stays most ts all few =
    let t : Tests ts = tests ts all in
    let names : Given = pass named most ts in
    let words : Given = names >>= pass worded most in
    let library : Given = words >>= prepared most in
    let units : Given = library >>= pass settled most in
    let sizes : Given = units >>= pass sized most in
    let a : names ≡ Ok ts = stays named most ts few (named_stays ts t.names) in
    let b : words ≡ Ok ts =
    and_stays names (pass worded most) ts a (stays worded most ts few (worded_stays ts t.words)) in
    let c : library ≡ Ok ts = and_stays words (prepared most) ts b (prepared_stays most ts t.library few) in
    let d : units ≡ Ok ts =
    and_stays library (pass settled most) ts c (stays settled most ts few (settled_stays ts t.units)) in
    let e : sizes ≡ Ok ts =
    and_stays units (pass sized most) ts d (stays sized most ts few (sized_stays ts t.sizes)) in
    and_stays sizes (pass with_objects most) ts e (stays with_objects most ts few (objects_stay ts t.objects))

-- KEEPING

-- what is given has a property
abbrev GivesHas : (Tokens → Type 0) → Given → Type 0
GivesHas Q (Ok ts) = Q ts
GivesHas Q (Err e) = Unit {0}

-- a pass gives what it makes
keeps : (P : Fact) (f : Tokens → Tokens) (most : ℕ) (ts : Tokens) (m : Given) → pass f most ts ≡ m
    → EachToken P (f ts) → GivesHas (EachToken P) m
keeps P f most ts (Ok us) e h = subst (EachToken P) (within_is most (f ts) us e) h
keeps P f most ts (Err x) e h = tt

library_keeps : (P : Fact) (most : ℕ) (ts : Tokens) (m : Given) → prepared most ts ≡ m → Allows P → EachToken P ts
    → GivesHas (EachToken P) m
library_keeps P most ts (Ok us) e a h = prepared_keeps P most ts us a h e
library_keeps P most ts (Err x) e a h = tt

-- one step more
and_keeps : (Q : Tokens → Type 0) (m : Given) (f : Step) → GivesHas Q m → ((ts : Tokens) → Q ts → GivesHas Q (f ts))
    → GivesHas Q (m >>= f)
and_keeps Q (Ok ts) f h g = g ts h
and_keeps Q (Err e) f h g = tt

-- what holds of each token, and of all that the passes may add, holds of each that they give
pub passed_keeps : (P : Fact) (most : ℕ) (ts us : Tokens) → Allows P → EachToken P ts → passed most ts ≡ Ok us
    → EachToken P us
passed_keeps P most ts us a h e =
    let Q : Tokens → Type 0 = EachToken P in
    let names : Given = pass named most ts in
    let words : Given = names >>= pass worded most in
    let library : Given = words >>= prepared most in
    let units : Given = library >>= pass settled most in
    let sizes : Given = units >>= pass sized most in
    let n : GivesHas Q names = keeps P named most ts names refl (named_keeps P ts a h) in
    let w : GivesHas Q words =
    and_keeps Q names (pass worded most) n
    (λ xs p. keeps P worded most xs (pass worded most xs) refl (worded_keeps P xs a p)) in
    let l : GivesHas Q library =
    and_keeps Q words (prepared most) w (λ xs p. library_keeps P most xs (prepared most xs) refl a p) in
    let u : GivesHas Q units =
    and_keeps Q library (pass settled most) l
    (λ xs p. keeps P settled most xs (pass settled most xs) refl (settled_keeps P xs a p)) in
    let s : GivesHas Q sizes =
    and_keeps Q units (pass sized most) u
    (λ xs p. keeps P sized most xs (pass sized most xs) refl (sized_keeps P xs a p)) in
    let o : GivesHas Q (sizes >>= pass with_objects most) =
    and_keeps Q sizes (pass with_objects most) s
    (λ xs p. keeps P with_objects most xs (pass with_objects most xs) refl (objects_keep P xs a p)) in
    subst (GivesHas Q) e o

-- FEW

last_few : (f : Tokens → Tokens) (most : ℕ) (m : Given) (us : Tokens) → (m >>= pass f most) ≡ Ok us
    → length us ≤ most
last_few f most (Ok ts) us e = within_few most (f ts) us e
last_few f most (Err x) us e = absurd (cc)

-- the passes give as few as there may be, since the last one does
pub passed_few : (most : ℕ) (ts us : Tokens) → passed most ts ≡ Ok us → length us ≤ most
passed_few most ts us e =
    last_few with_objects most
    (pass named most ts >>= pass worded most >>= prepared most >>= pass settled most >>= pass sized most) us e

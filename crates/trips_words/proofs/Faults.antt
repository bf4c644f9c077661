-- Faults of a parse, one after the other.
use Rattle.std.proofs.Common.{◌≡◌, ◌∙◌, refl, sym, ap, Bool, cond, true, false, true≢false, [], ◌∷◌}
use Rattle.std.specs.Prelude.{◌&&◌}
use Rattle.clap.specs.Kinds.{Kinds, or_else}
use Rattle.clap.specs.declared.error.kind.ErrorKind.{ErrorKind}
use Rattle.clap.specs.declared.error.kind.ErrorKind.TheVariants as kind

-- there is a fault
abbrev pub Fails : Kinds → Type 0
Fails kinds = kinds ≡ [] → ⊥

abbrev is_nil : Kinds → Bool
is_nil [] = true
is_nil (k ∷ ks) = false

-- where there is a kind of fault, there is a fault
pub some_kind : (k : ErrorKind) (ks : Kinds) → Fails (k ∷ ks)
some_kind k ks = λ e. true≢false (sym (ap is_nil e))

-- kinds that are those of a fault are a fault
pub fails_as : (a b : Kinds) → a ≡ b → Fails b → Fails a
fails_as a b e f = λ none. f (sym e ∙ none)

-- where the first of two parts has a fault, both together have
pub fails_first : (a b : Kinds) → Fails a → Fails (or_else a b)
fails_first [] b f = λ e. f refl
fails_first (k ∷ ks) b f = some_kind k ks

-- where the second of two parts has a fault, both together have
pub fails_second : (a b : Kinds) → Fails b → Fails (or_else a b)
fails_second [] b f = f
fails_second (k ∷ ks) b f = some_kind k ks

-- the first fault of three parts is the same whichever two are taken together
pub else_assoc : (a b c : Kinds) → or_else (or_else a b) c ≡ or_else a (or_else b c)
else_assoc [] b c = refl
else_assoc (k ∷ ks) b c = refl

-- a part without a fault behind another adds none
pub else_none : (a : Kinds) → or_else a [] ≡ a
else_none [] = refl
else_none (k ∷ ks) = refl

-- a second use, where the first is there
abbrev pub conflict : Bool → Kinds
conflict b = or_else (cond (b && true) (kind.ArgumentConflict ∷ []) []) []

-- where there is no conflict, there is no fault
pub no_conflict : (b : Bool) → b ≡ false → conflict b ≡ []
no_conflict false e = refl
no_conflict true e = absurd (true≢false e)

-- a conflict is a fault
pub some_conflict : (b : Bool) → b ≡ true → Fails (conflict b)
some_conflict true e = some_kind _ _
some_conflict false e = absurd (true≢false (sym e))

-- A set agrees with a list of names.
use Rattle.std.proofs.Common.{◌≡◌, Bool, true, false, cond, ◌||◌, List, [], ◌∷◌, ◌++◌, refl, sym, ap, subst, ◌∙◌}
use Rattle.std.proofs.Common.{HashSet}
use Rattle.std.specs.HashSet.{contains}
use Rattle.std.specs.List.{list_any}
use Rattle.std.specs.Str.{bytes_eq}
use Rattle.c_lex.specs.Bytes.{Bytes}
use Rattle.c_words.specs.Names.{is_among}
use Rattle.c_words.specs.inside.Agree.{Agree}

-- without keys with no name
pub agree_at_first : {S : Type 0} (s : HashSet Bytes S) (ws : List Bytes) → s.keys ≡ [] → ws ≡ [] → Agree ws s
agree_at_first s ws e h =
    λ w. ap (λ (ks : List Bytes). list_any (bytes_eq w) ks) e ∙ sym (ap (λ (vs : List Bytes). is_among w vs) h)

or_else : (a b : Bool) → cond b true a ≡ (a || (b || false))
or_else true true = refl
or_else true false = refl
or_else false true = refl
or_else false false = refl

or_more : (a b c : Bool) → (a || (b || c)) ≡ ((a || b) || c)
or_more true true true = refl
or_more true true false = refl
or_more true false true = refl
or_more true false false = refl
or_more false true true = refl
or_more false true false = refl
or_more false false true = refl
or_more false false false = refl

among_more : (w v : Bytes) (vs : List Bytes) → is_among w (vs ++ v ∷ []) ≡ (is_among w vs || (bytes_eq v w || false))
among_more w v [] = none (bytes_eq v w)
  where
    none : (b : Bool) → (b || false) ≡ (false || (b || false))
    none true = refl
    none false = refl
among_more w v (x ∷ xs) =
    ap (λ (b : Bool). bytes_eq x w || b) (among_more w v xs)
    ∙ or_more (bytes_eq x w) (is_among w xs) (bytes_eq v w || false)

-- and with one name more
pub agree_grows : {S : Type 0} (s s' : HashSet Bytes S) (ws : List Bytes) (v : Bytes) → Agree ws s
    → ((w : Bytes) → contains bytes_eq s' w ≡ cond (bytes_eq v w) true (contains bytes_eq s w))
    → Agree (ws ++ v ∷ []) s'
agree_grows s s' ws v h k =
    λ w. k w ∙ ap (λ (b : Bool). cond (bytes_eq v w) true b) (h w) ∙ or_else (is_among w ws) (bytes_eq v w)
    ∙ sym (among_more w v ws)

-- the same, where both are made one after the other
pub agree_added : {S : Type 0} (s s' : HashSet Bytes S) (ws ws' ws'' : List Bytes) (v u : Bytes) → Agree ws s → u ≡ v
    → ((w : Bytes) → contains bytes_eq s' w ≡ cond (bytes_eq u w) true (contains bytes_eq s w))
    → ws' ≡ ws → ws'' ≡ ws' ++ v ∷ [] → Agree ws'' s'
agree_added s s' ws ws' ws'' v u h e k f g =
    subst (λ (xs : List Bytes). Agree xs s')
    (ap (λ (x : Bytes). ws ++ x ∷ []) e ∙ ap (λ (xs : List Bytes). xs ++ v ∷ []) (sym f) ∙ sym g)
    (agree_grows s s' ws u h k)

-- What the rules give an item, or a unit, has no fault, and is what the definitions compute.
use Rattle.std.proofs.Common.{◌≡◌, ℕ, ◌+◌, ◌*◌, ◌≤◌, ◌<◌, Bool, true, false, not, List, [], ◌∷◌, ◌++◌}
use Rattle.std.proofs.Common.{map, length, Option, Some, None, refl, sym, ap, ◌∙◌, subst}
use Rattle.std.specs.Prelude.{◌&&◌, ◌||◌, cond}
use Rattle.std.proofs.lemmas.Bool.{false≢true}
use Rattle.c_tree.specs.declared.token.Kind.{Kind}
use Rattle.c_tree.specs.declared.token.Kind.TheVariants.{Int}
use Rattle.c_tree.specs.declared.tree.ArraySize.{ArraySize}
use Rattle.c_tree.specs.declared.tree.ArraySize.TheVariants as size
use Rattle.c_tree.specs.declared.tree.Param.{Param}
use Rattle.c_tree.specs.declared.tree.Program.{Program}
use Rattle.c_tree.specs.declared.tree.Section.{Section}
use Rattle.c_tree.specs.declared.tree.Stmt.{Stmt}
use Rattle.c_tree.specs.declared.tree.StmtNode.{StmtNode, out-StmtNode, out-roll-StmtNode}
use Rattle.c_tree.specs.declared.tree.StmtNode.TheVariants as node
use Rattle.c_tree.specs.declared.tree.ForInit.{ForInit}
use Rattle.c_tree.specs.declared.tree.ForInit.TheOpen.{StmtNode-F}
use Rattle.c_tree.specs.declared.tree.Top.{Top}
use Rattle.c_tree.specs.declared.tree.TopNode.{TopNode}
use Rattle.c_tree.specs.declared.typed.Slot.{Slot}
use Rattle.c_tree.specs.declared.typed.TypedProgram.{TypedProgram}
use Rattle.c_tree.specs.declared.typed.TypedStmt.{TypedStmt}
use Rattle.c_tree.specs.declared.typed.TypedStmt.TheVariants as typed
use Rattle.c_type_expr.specs.declared.meaning.Meaning.{Meaning}
use Rattle.c_type_expr.specs.Scope.{Scope, look_up, is_here, closed}
use Rattle.c_type_expr.specs.declared.fault.TypeFault.TheVariants.{Twice, Mismatch, TooManyParams}
use Rattle.c_type_expr.specs.declared.fault.TypeFault.TheVariants.{TooLarge, NoMain}
use Rattle.c_type_expr.specs.Blames.{unless}
use Rattle.c_constant.specs.Constant.{word_in}
use Rattle.c_type.specs.declared.file_scope.FileScope.{FileScope}
use Rattle.c_type.specs.declared.state.State.{State}
use Rattle.c_type.specs.States.{at, nowhere, is_end, is_taken, row_in, slot_of, with_params, started}
use Rattle.c_constant.specs.Kinds.{bytes}
use Rattle.c_type.specs.FileScopes.{exit_name}
use Rattle.c_type.specs.FileScopes.{eof_name, getchar_name, putchar_name, int_slots, long_slots, with_include}
use Rattle.c_type.specs.FileScopes.{prototype_names}
use Rattle.c_type.specs.Units.{include_clash, count_of, function_fault, same_slots}
use Rattle.c_type.specs.FileScopes.{global_names, length_in, body_entry, empty_file, main_name, number_in}
use Rattle.c_type.specs.Functions.{name_fault, row_bytes_fault, entry}
use Rattle.c_type.specs.inside.Functions.{params_fault, row_fault, head_fault}
use Rattle.c_type.specs.Functions.{body_in, body_part, callee_in}
use Rattle.c_type.specs.inside.Functions.{param_fault}
use Rattle.c_type.specs.Statements.{Part, part}
use Rattle.c_type.specs.Programs.{table, is_main, node_after, items_after, whole}
use Rattle.c_type.specs.inside.Programs.{node_fault, items_fault}
use Rattle.c_type.specs.inside.Programs.{program_fault, program_tree}
use Rattle.c_type_rules.specs.Units.{Row}
use Rattle.c_type_rules.specs.Units.{no_row_size, row_size}
use Rattle.c_type_rules.specs.Units.{Named, Params, Agrees, Heads, is_block, Body}
use Rattle.c_type_rules.specs.Units.{Item, Items, Accepts, typed_function}
use Rattle.c_type_rules.specs.Units.{unnamed, named, no_param, one_param}
use Rattle.c_type_rules.specs.Units.{fresh, again, outermost, other, include, include_again, global}
use Rattle.c_type_rules.specs.Units.{prototype, definition, no_item, one_item, accepts}
use Rattle.c_type_rules.proofs.SoundParts.{both, fine, free, size_fine, less, at_most}
use Rattle.c_type_rules.proofs.Sound.{types_fine, all_fine}
use Rattle.c_type_rules.proofs.Clashes.{no_clash}
use Rattle.c_type_rules.proofs.Definitions.{calls_is}
use Rattle.c_type_rules.proofs.Tests.{neither_holds, result_itself, params_themselves}
use Rattle.c_type_rules.proofs.GlobalsSound.{count_fine, init_fine}

-- a parameter's name has no fault
pub named_fine : (d : Bool) (G : Scope) (seen : List Param) (o : Option (List ℕ)) (l : ℕ) → Named d G seen o
    → name_fault d G seen o l ≡ None
named_fine d G seen _ l (unnamed h) = fine _ (Mismatch l) (ap not h)
named_fine d G seen _ l (named {w = w} h h') =
    fine _ (Twice l) (ap (λ b. not (b || is_end (look_up G w))) h ∙ ap not h')

-- the second size of an array parameter has no fault
row_in_fine : (G : Scope) (seen : List Param) (k : Kind) (s : ArraySize) (l : ℕ) → row_in s ≡ None
    → (row_fault s G seen ≡ None) × (row_bytes_fault s k l ≡ None)
row_in_fine G seen k size.Scalar l h = (refl, refl)
row_in_fine G seen k size.Open l h = (refl, refl)
row_in_fine G seen k (size.Sized e) l h = (refl, refl)
row_in_fine G seen k (size.Rows o e) l h = absurd (cc)

pub row_fine : (G : Scope) (seen : List Param) (k : Kind) (s : ArraySize) (l : ℕ) → Row G seen k s
    → (row_fault s G seen ≡ None) × (row_bytes_fault s k l ≡ None)
row_fine G seen k _ l (no_row_size {s = s} h) = row_in_fine G seen k s l h
row_fine G seen k _ l (row_size {o = o} {e = e} {n = n} s h) = (
  size_fine (with_params seen (started G None)).names e n s,
  fine _ (TooLarge l) (at_most _ _ (subst (λ x. word_in x * bytes k ≤ 1048576) (sym s.1) h)),
)

-- a parameter has no fault
pub param_fine : (d : Bool) (G : Scope) (seen : List Param) (p : Param) → Row G seen p.kind p.size
    → Named d G seen p.name → length seen < 8 → param_fault d G seen p ≡ None
param_fine d G seen p x n h =
    let r = row_fine G seen p.kind p.size p.offset x in
    both _ _ r.0
    (both _ _ (named_fine d G seen p.name p.offset n)
    (both _ _ (fine _ (TooManyParams p.offset) (less _ _ h)) r.1))

-- parameters have no fault
pub params_fine : (d : Bool) (G : Scope) (seen ps : List Param) → Params d G seen ps → params_fault d G seen ps ≡ None
params_fine d G _ _ no_param = refl
params_fine d G _ _ (one_param {seen = seen} {ps = ps} {p = p} x n h r) =
    both _ _ (param_fine d G seen p x n h) (params_fine d G _ ps r)

-- a function that agrees with what its name means has no fault
agrees_fine : (d : Bool) (r : Option Kind) (ss : List Slot) (m : Option Meaning) (l : ℕ) → Agrees d r ss m
    → function_fault d r ss m l ≡ None
agrees_fine d r ss _ l fresh = refl
agrees_fine d r ss _ l (again {c = c} {d = s} h) =
    both _ _ (fine (not (d && s)) (Twice l) (ap not h))
    (fine _ (Mismatch l) (ap (λ b. b && same_slots ss ss) (result_itself r) ∙ params_themselves ss))

-- what stands before a body has no fault
heads_fine : (d : Bool) (r : Option Kind) (w : List ℕ) (ps : List Param) (l : ℕ) (G : Scope) → Heads d r w ps G
    → head_fault d r w ps l G ≡ None
heads_fine d r w ps l G h =
    both _ _ (params_fine d G [] ps h.0) (agrees_fine d r (map slot_of ps) (look_up G w) l h.1)

abbrev BodyFine : State → Stmt → TypedStmt → State → Type 0
BodyFine v s t w =
    ((body_part s).fault nowhere v ≡ None) × (t ≡ (body_part s).tree v) × (w ≡ (body_part s).after v)

-- a body that is a block is judged without a scope of its own
pub block_body : (l : ℕ) (ss : List Stmt)
    → body_part (at l (node.Compound ss)) ≡ body_in (StmtNode-F.Compound ss) (at l (node.Compound ss))
unfolding body_part
block_body l ss =
    ap (λ x. body_in x (at l (node.Compound ss)))
    (ap out-StmtNode (sym (node.rolls-Compound ss)) ∙ out-roll-StmtNode (StmtNode-F.Compound ss))

plain_in : (x : StmtNode-F ForInit StmtNode Section Stmt) (s : Stmt) → is_block x ≡ false → body_in x s ≡ part s
plain_in (StmtNode-F.Compound ss) s h = absurd (false≢true (sym h))
plain_in _ s h = refl

-- another body is judged as a statement
pub plain_body : (s : Stmt) → is_block (out-StmtNode s.node) ≡ false → body_part s ≡ part s
unfolding body_part
plain_body s h = plain_in (out-StmtNode s.node) s h

-- a body has no fault, and its tree
pub body_fine : (v : State) (s : Stmt) (t : TypedStmt) (w : State) → Body v s t w → BodyFine v s t w
body_fine _ _ _ _ (outermost {v = v} {w = w} {l = l} {ss = ss} {ts = ts} d) =
    let s = all_fine nowhere v ss ts w d in
    let e = block_body l ss in (
      ap (λ (p : Part). p.fault nowhere v) e ∙ s.0,
      ap typed.Compound s.1 ∙ sym (ap (λ (p : Part). p.tree v) e),
      s.2 ∙ sym (ap (λ (p : Part). p.after v) e),
    )
body_fine _ _ _ _ (other {v = v} {w = w} {s = s} {t = t} h d) =
    let q = types_fine nowhere v s t w d in
    let e = plain_body s h in (
      ap (λ (p : Part). p.fault nowhere v) e ∙ q.0,
      q.1 ∙ sym (ap (λ (p : Part). p.tree v) e),
      q.2 ∙ sym (ap (λ (p : Part). p.after v) e),
    )

abbrev ItemFine : Scope → FileScope → TopNode → FileScope → ℕ → Type 0
ItemFine T U n V l = (node_fault T n l U ≡ None) × (V ≡ node_after T n U)

-- the first include has no fault
clash_fine : (G : Scope) (l : ℕ) → is_taken G eof_name ≡ false → Agrees true (Some Int) [] (look_up G getchar_name)
    → Agrees true (Some Int) int_slots (look_up G putchar_name) → Agrees true None long_slots (look_up G exit_name)
    → include_clash G l ≡ None
clash_fine G l h a b c =
    no_clash G l (record {
      get = agrees_fine true (Some Int) [] (look_up G getchar_name) l a;
      put = agrees_fine true (Some Int) int_slots (look_up G putchar_name) l b;
      end = agrees_fine true None long_slots (look_up G exit_name) l c;
      eof = free G eof_name l h;
    })

-- an item has no fault, and leads to the file scope after it
pub item_fine : (unit : List Top) (l : ℕ) (U : FileScope) (n : TopNode) (V : FileScope) → Item unit U n V
    → ItemFine (table unit) U n V l
item_fine unit l _ _ _ (include {U = U} h a b c) =
    let e = (neither_holds (is_here U.names eof_name) (is_end (look_up U.names eof_name)) h).1 in (
      ap (λ b. cond b None (include_clash U.names l)) e ∙ clash_fine U.names l h a b c,
      ap (λ b. record U { names = cond b U.names (with_include U.names) }) (sym e),
    )
item_fine unit l _ _ _ (include_again {U = U} e) = (
  ap (λ b. cond b None (include_clash U.names l)) e,
  ap (λ b. record U { names = cond b U.names (with_include U.names) }) (sym e),
)
item_fine unit l _ _ _ (global {U = U} {k = k} {w = w} {s = s} {init = init} {n = n} {ns = ns} c h m d) =
    let p = count_fine U.names init s n l c in
    let q = init_fine (global_names s k w U) k n s init ns p.1 d in (
      both _ _
          (both _ _ p.0 (both _ _ (free U.names w l h) (fine _ (TooLarge l)
          (at_most _ _ (subst (λ n. n * bytes k + U.bytes ≤ 1048576) p.1 m)))))
          (both _ _ q.0 (fine _ (Mismatch l) q.1)),
      ap (λ n. record U {
        names = global_names s k w U;
        globals = U.globals ++ (record { kind = k; length = length_in s n; row = row_in s; init = ns }) ∷ [];
        bytes = n * bytes k + U.bytes;
      }) p.1
          ∙ ap (λ ns. record U {
            names = global_names s k w U;
            globals = U.globals
                ++ (record { kind = k; length = length_in s (count_of s init); row = row_in s; init = ns }) ∷ [];
            bytes = count_of s init * bytes k + U.bytes;
          }) q.2,
    )
item_fine unit l _ _ _ (prototype {U = U} {given = given} {w = w} {params = params} {c = c} k h) = (
  heads_fine false given w params l U.names h,
  ap (λ c. record U { names = prototype_names c w given (map slot_of params) U.names }) (calls_is unit w c k),
)
item_fine unit l _ _ _ (definition {U = U} {given = given} {w = w} {params = params} {c = c} {s = s} {t = t}
    {v = v} k h d) =
    let E = entry (table unit) w given params U.names in
    let q = body_fine E s t v (subst (λ c. Body (body_entry c w given params U.names) s t v) (calls_is unit w c k) d)
    in (
      both _ _ (heads_fine true given w params l U.names h) q.0,
      ap (λ t. record U {
        names = closed v.names;
        functions = U.functions ++ typed_function (length params) t v ∷ [];
      }) q.1
          ∙ ap (λ (v : State). record U {
            names = closed v.names;
            functions = U.functions ++ typed_function (length params) ((body_part s).tree E) v ∷ [];
          }) q.2,
    )

-- items have no fault, and lead to the file scope after them
pub items_fine : (unit : List Top) (U : FileScope) (ts : List Top) (V : FileScope) → Items unit U ts V
    → (items_fault (table unit) ts U ≡ None) × (V ≡ items_after (table unit) ts U)
items_fine unit _ _ _ no_item = (refl, refl)
items_fine unit _ _ _ (one_item {U = U} {V = V} {W = W} {t = t} {ts = ts} d ds) =
    let T = table unit in
    let p = item_fine unit t.offset U t.node V d in
    let q = items_fine unit V ts W ds in (
      both _ _ p.0 (ap (λ V. items_fault T ts V) (sym p.1) ∙ q.0),
      q.1 ∙ ap (λ V. items_after T ts V) p.1,
    )

-- a unit that the rules accept has no fault, and its typed program
pub accepts_fine : (p : Program) (t : TypedProgram) → Accepts p t → (program_fault p ≡ None) × (t ≡ program_tree p)
accepts_fine _ _ (accepts {p = p} {U = U} {c = c} d h) =
    let q = items_fine p.items empty_file p.items U d in
    let e = ap (λ (U : FileScope). look_up U.names main_name) (sym q.1) ∙ h in (
      both _ _ q.0 (ap (λ m. unless (is_main m) NoMain) e),
      ap (λ (U : FileScope). record { globals = U.globals; functions = U.functions; main = number_in c }) q.1
          ∙ ap (λ m. record {
            globals = (whole p).globals;
            functions = (whole p).functions;
            main =
                number_in (callee_in m);
          }) (sym e),
    )

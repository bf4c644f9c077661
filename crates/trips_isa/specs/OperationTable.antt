-- The table of the machine's operations, one row for each: everything that is said of an operation but what it
-- computes (Alu.antt), how it takes its operands and how many bytes it moves (Forms.antt). Source: the mnemonics and
-- the formats of the TRIPS Processor Reference Manual, UT Austin TR-05-19. Own: the latencies.
use Rattle.std.specs.Prelude.{ℕ, List, [], ◌∷◌, codes}
use Rattle.trips_isa.specs.declared.op.Op.{Op}
use Rattle.trips_isa.specs.declared.op.Op.TheVariants as op
use Rattle.trips_isa.specs.declared.form.Form.{Form}
use Rattle.trips_isa.specs.declared.form.Form.TheVariants.{General, Immediate, Load, Store, Branch}
use Rattle.trips_isa.specs.declared.form.Form.TheVariants.{Constant}

-- what the table has of an operation
pub record Row : Type 0 where
  -- in ASCII, another for each operation
  pub mnemonic : List ℕ
  -- the form of its word
  pub form : Form
  pub opcode : ℕ
  -- tells operations of one opcode apart, and is 0 where an opcode has one operation
  pub extended : ℕ
  -- the cycles from its issue to its result
  pub latency : ℕ

-- a row by its columns
abbrev pub row : List ℕ → Form → ℕ → ℕ → ℕ → Row
row mnemonic form opcode extended latency = record {
  mnemonic = mnemonic;
  form = form;
  opcode = opcode;
  extended = extended;
  latency = latency;
}

-- the table: mnemonic, form, opcode, extended opcode, latency
abbrev pub row_of : Op → Row
row_of op.Add = row (codes "add") General 1 0 1
row_of op.Sub = row (codes "sub") General 1 1 1
row_of op.Mul = row (codes "mul") General 1 2 3
row_of op.Divs = row (codes "divs") General 1 3 24
row_of op.Divu = row (codes "divu") General 1 4 24
row_of op.And = row (codes "and") General 1 5 1
row_of op.Or = row (codes "or") General 1 6 1
row_of op.Xor = row (codes "xor") General 1 7 1
row_of op.Sll = row (codes "sll") General 1 8 1
row_of op.Srl = row (codes "srl") General 1 9 1
row_of op.Sra = row (codes "sra") General 1 10 1
row_of op.Extsb = row (codes "extsb") General 1 11 1
row_of op.Extsh = row (codes "extsh") General 1 12 1
row_of op.Extsw = row (codes "extsw") General 1 13 1
row_of op.Extub = row (codes "extub") General 1 14 1
row_of op.Extuh = row (codes "extuh") General 1 15 1
row_of op.Extuw = row (codes "extuw") General 1 16 1
row_of op.Teq = row (codes "teq") General 1 17 1
row_of op.Tne = row (codes "tne") General 1 18 1
row_of op.Tlt = row (codes "tlt") General 1 19 1
row_of op.Tle = row (codes "tle") General 1 20 1
row_of op.Tgt = row (codes "tgt") General 1 21 1
row_of op.Tge = row (codes "tge") General 1 22 1
row_of op.Tltu = row (codes "tltu") General 1 23 1
row_of op.Tleu = row (codes "tleu") General 1 24 1
row_of op.Tgtu = row (codes "tgtu") General 1 25 1
row_of op.Tgeu = row (codes "tgeu") General 1 26 1
row_of op.Mov = row (codes "mov") General 1 27 1
row_of op.Null = row (codes "null") General 1 28 1
row_of op.Addi = row (codes "addi") Immediate 2 0 1
row_of op.Subi = row (codes "subi") Immediate 2 1 1
row_of op.Muli = row (codes "muli") Immediate 2 2 3
row_of op.Andi = row (codes "andi") Immediate 2 5 1
row_of op.Ori = row (codes "ori") Immediate 2 6 1
row_of op.Xori = row (codes "xori") Immediate 2 7 1
row_of op.Slli = row (codes "slli") Immediate 2 8 1
row_of op.Srli = row (codes "srli") Immediate 2 9 1
row_of op.Srai = row (codes "srai") Immediate 2 10 1
row_of op.Teqi = row (codes "teqi") Immediate 2 17 1
row_of op.Tnei = row (codes "tnei") Immediate 2 18 1
row_of op.Tlti = row (codes "tlti") Immediate 2 19 1
row_of op.Tlei = row (codes "tlei") Immediate 2 20 1
row_of op.Tgti = row (codes "tgti") Immediate 2 21 1
row_of op.Tgei = row (codes "tgei") Immediate 2 22 1
row_of op.Tltui = row (codes "tltui") Immediate 2 23 1
row_of op.Tleui = row (codes "tleui") Immediate 2 24 1
row_of op.Tgtui = row (codes "tgtui") Immediate 2 25 1
row_of op.Tgeui = row (codes "tgeui") Immediate 2 26 1
row_of op.Lb = row (codes "lb") Load 16 0 1
row_of op.Lbs = row (codes "lbs") Load 17 0 1
row_of op.Lh = row (codes "lh") Load 18 0 1
row_of op.Lhs = row (codes "lhs") Load 19 0 1
row_of op.Lw = row (codes "lw") Load 20 0 1
row_of op.Lws = row (codes "lws") Load 21 0 1
row_of op.Ld = row (codes "ld") Load 22 0 1
row_of op.Sb = row (codes "sb") Store 24 0 1
row_of op.Sh = row (codes "sh") Store 25 0 1
row_of op.Sw = row (codes "sw") Store 26 0 1
row_of op.Sd = row (codes "sd") Store 27 0 1
row_of op.Bro = row (codes "bro") Branch 32 0 1
row_of op.Callo = row (codes "callo") Branch 33 0 1
row_of op.Br = row (codes "br") Branch 34 0 1
row_of op.Ret = row (codes "ret") Branch 35 0 1
row_of op.Scall = row (codes "scall") Branch 36 0 1
row_of op.Genu = row (codes "genu") Constant 48 0 1
row_of op.Gens = row (codes "gens") Constant 49 0 1
row_of op.App = row (codes "app") Constant 50 0 1

-- the operations, in the order of the table
unfoldable pub operations : List Op
operations =
    op.Add ∷ op.Sub ∷ op.Mul ∷ op.Divs ∷ op.Divu ∷ op.And ∷ op.Or ∷ op.Xor ∷ op.Sll ∷ op.Srl ∷
    op.Sra ∷ op.Extsb ∷ op.Extsh ∷ op.Extsw ∷ op.Extub ∷ op.Extuh ∷ op.Extuw ∷ op.Teq ∷ op.Tne ∷
    op.Tlt ∷ op.Tle ∷ op.Tgt ∷ op.Tge ∷ op.Tltu ∷ op.Tleu ∷ op.Tgtu ∷ op.Tgeu ∷ op.Mov ∷ op.Null ∷
    op.Addi ∷ op.Subi ∷ op.Muli ∷ op.Andi ∷ op.Ori ∷ op.Xori ∷ op.Slli ∷ op.Srli ∷ op.Srai ∷
    op.Teqi ∷ op.Tnei ∷ op.Tlti ∷ op.Tlei ∷ op.Tgti ∷ op.Tgei ∷ op.Tltui ∷ op.Tleui ∷ op.Tgtui ∷
    op.Tgeui ∷ op.Lb ∷ op.Lbs ∷ op.Lh ∷ op.Lhs ∷ op.Lw ∷ op.Lws ∷ op.Ld ∷ op.Sb ∷ op.Sh ∷ op.Sw ∷
    op.Sd ∷ op.Bro ∷ op.Callo ∷ op.Br ∷ op.Ret ∷ op.Scall ∷ op.Genu ∷ op.Gens ∷ op.App ∷ []

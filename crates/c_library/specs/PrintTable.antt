-- The functions of `<stdio.h>`, as docs/library.c has them: bench/library writes this table of it. What a row
-- names stands before it.
use Rattle.std.specs.Prelude.{List, [], ◌∷◌, ◌++◌, codes}
use Rattle.c_library.specs.declared.header.Header.TheVariants as header
use Rattle.c_library.specs.Definitions.{Row, row}

-- each with its name, its header, and the text of its definition
abbrev pub printing : List Row
printing =
    row (codes "print.c") header.Stdio
    (codes "int print.c ( int c ) { putchar ( c ) ; return 1 ; }")
    ∷ row (codes "print.s") header.Stdio
    (codes "int print.s ( char s [ ] ) { int n = 0 ; while ( s [ n ] ) { putchar ( s [ n ] ) ; n ++ ; } "
    ++ codes "return n ; }")
    ∷ row (codes "print.u") header.Stdio
    (codes "int print.u ( unsigned long n ) { int k = n < 10 ? 0 : print.u ( n / 10 ) ; putchar ( 48 + n % "
    ++ codes "10 ) ; return k + 1 ; }")
    ∷ row (codes "print.d") header.Stdio
    (codes "int print.d ( long n ) { if ( n >= 0 ) return print.u ( n ) ; putchar ( 45 ) ; return 1 + "
    ++ codes "print.u ( - ( unsigned long ) n ) ; }")
    ∷ row (codes "print.x") header.Stdio
    (codes "int print.x ( unsigned long n ) { int k = n < 16 ? 0 : print.x ( n >> 4 ) ; int d = n & 15 ; "
    ++ codes "putchar ( d < 10 ? 48 + d : 97 - 10 + d ) ; return k + 1 ; }")
    ∷ row (codes "print.fill") header.Stdio
    (codes "int print.fill ( int c , int count ) { int k = 0 ; while ( k < count ) { putchar ( c ) ; k ++ ; "
    ++ codes "} return k ; }")
    ∷ row (codes "print.size") header.Stdio
    (codes "int print.size ( unsigned long n , int base ) { int k = 0 ; while ( n != 0 ) { n /= base ; k ++ "
    ++ codes "; } return k ; }")
    ∷ row (codes "print.digits") header.Stdio
    (codes "int print.digits ( unsigned long n , int base , int letters ) { if ( n == 0 ) return 0 ; int k "
    ++ codes "= print.digits ( n / base , base , letters ) ; int d = n % base ; putchar ( d < 10 ? 48 + d : "
    ++ codes "letters + d ) ; return k + 1 ; }")
    ∷ row (codes "print.unsigned") header.Stdio
    (codes "int print.unsigned ( unsigned long n , int letter , int sign , int fill , int width , int least "
    ++ codes ") { int base = letter == 111 ? 8 : letter == 120 || letter == 88 ? 16 : 10 ; int size = "
    ++ codes "print.size ( n , base ) ; int front = sign == 0 ? 0 : sign != 35 ? 1 : base == 16 && n != 0 ? 2 "
    ++ codes ": 0 ; if ( sign == 35 && base == 8 && least <= size ) least = size + 1 ; if ( least < size ) "
    ++ codes "least = size ; if ( fill == 48 && least < width - front ) least = width - front ; int spare = "
    ++ codes "width - front - least ; int k = fill == 45 ? 0 : print.fill ( 32 , spare ) ; if ( front != 0 ) "
    ++ codes "putchar ( front == 2 ? 48 : sign ) ; if ( front == 2 ) putchar ( letter ) ; k += front + "
    ++ codes "print.fill ( 48 , least - size ) ; k += print.digits ( n , base , letter == 88 ? 65 - 10 : 97 - "
    ++ codes "10 ) ; return fill == 45 ? k + print.fill ( 32 , spare ) : k ; }")
    ∷ row (codes "print.signed") header.Stdio
    (codes "int print.signed ( long n , int sign , int fill , int width , int least ) { if ( n < 0 ) return "
    ++ codes "print.unsigned ( - ( unsigned long ) n , 100 , 45 , fill , width , least ) ; return "
    ++ codes "print.unsigned ( n , 100 , sign , fill , width , least ) ; }")
    ∷ row (codes "print.string") header.Stdio
    (codes "int print.string ( char s [ ] , int fill , int width , int most ) { int size = 0 ; while ( size "
    ++ codes "< most && s [ size ] ) size ++ ; int k = fill == 45 ? 0 : print.fill ( 32 , width - size ) ; "
    ++ codes "int i = 0 ; while ( i < size ) { putchar ( s [ i ] ) ; i ++ ; } k += size ; return fill == 45 ? "
    ++ codes "k + print.fill ( 32 , width - size ) : k ; }")
    ∷ row (codes "print.char") header.Stdio
    (codes "int print.char ( int c , int fill , int width ) { int k = fill == 45 ? 0 : print.fill ( 32 , "
    ++ codes "width - 1 ) ; putchar ( c ) ; k ++ ; return fill == 45 ? k + print.fill ( 32 , width - 1 ) : k "
    ++ codes "; }")
    ∷ row (codes "puts") header.Stdio
    (codes "int puts ( char s [ ] ) { int n = 0 ; while ( s [ n ] ) { putchar ( s [ n ] ) ; n ++ ; } "
    ++ codes "putchar ( 10 ) ; return n + 1 ; }")
    ∷ []

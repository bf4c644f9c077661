-- The functions of the library, as docs/library.c has them: bench/library writes this table of it. What a row
-- names stands before it.
use Rattle.std.specs.Prelude.{List, [], ◌∷◌, ◌++◌, codes}
use Rattle.c_library.specs.declared.header.Header.TheVariants as header
use Rattle.c_library.specs.Definitions.{Row, row}
use Rattle.c_library.specs.PrintTable.{printing}

-- each with its name, its header, and the text of its definition
abbrev pub further : List Row
further =
    row (codes "isdigit") header.Ctype
    (codes "int isdigit ( int c ) { return c >= 48 && c <= 57 ; }")
    ∷ row (codes "isupper") header.Ctype
    (codes "int isupper ( int c ) { return c >= 65 && c <= 90 ; }")
    ∷ row (codes "islower") header.Ctype
    (codes "int islower ( int c ) { return c >= 97 && c <= 122 ; }")
    ∷ row (codes "isalpha") header.Ctype
    (codes "int isalpha ( int c ) { return c >= 65 && c <= 90 || c >= 97 && c <= 122 ; }")
    ∷ row (codes "isalnum") header.Ctype
    (codes "int isalnum ( int c ) { return c >= 48 && c <= 57 || c >= 65 && c <= 90 || c >= 97 && c <= 122 "
    ++ codes "; }")
    ∷ row (codes "isxdigit") header.Ctype
    (codes "int isxdigit ( int c ) { return c >= 48 && c <= 57 || c >= 65 && c <= 70 || c >= 97 && c <= 102 "
    ++ codes "; }")
    ∷ row (codes "isspace") header.Ctype
    (codes "int isspace ( int c ) { return c == 32 || c >= 9 && c <= 13 ; }")
    ∷ row (codes "isprint") header.Ctype
    (codes "int isprint ( int c ) { return c >= 32 && c <= 126 ; }")
    ∷ row (codes "ispunct") header.Ctype
    (codes "int ispunct ( int c ) { return c > 32 && c <= 126 && ! ( c >= 48 && c <= 57 || c >= 65 && c <= "
    ++ codes "90 || c >= 97 && c <= 122 ) ; }")
    ∷ row (codes "toupper") header.Ctype
    (codes "int toupper ( int c ) { return c >= 97 && c <= 122 ? c - 97 + 65 : c ; }")
    ∷ row (codes "tolower") header.Ctype
    (codes "int tolower ( int c ) { return c >= 65 && c <= 90 ? c - 65 + 97 : c ; }")
    ∷ row (codes "abs") header.Stdlib
    (codes "int abs ( int n ) { return n < 0 ? - n : n ; }")
    ∷ row (codes "labs") header.Stdlib
    (codes "long labs ( long n ) { return n < 0 ? - n : n ; }")
    ∷ row (codes "rand.next") header.Stdlib
    (codes "unsigned long rand.next = 1 ;")
    ∷ row (codes "rand") header.Stdlib
    (codes "int rand ( void ) { rand.next = rand.next * 1103515245 + 12345 ; return ( unsigned int ) ( "
    ++ codes "rand.next / 65536 ) % 32768 ; }")
    ∷ row (codes "srand") header.Stdlib
    (codes "void srand ( unsigned int seed ) { rand.next = seed ; }")
    ∷ row (codes "abort") header.Stdlib
    (codes "#include void abort ( void ) { exit.now ( ( unsigned long ) 1 << 63 ) ; }")
    ∷ row (codes "exit") header.Stdlib
    (codes "#include void exit ( int status ) { exit.now ( status ) ; }")
    ∷ row (codes "strlen") header.String
    (codes "unsigned long strlen ( char s [ ] ) { unsigned long n = 0 ; while ( s [ n ] ) n ++ ; return n ; "
    ++ codes "}")
    ∷ row (codes "strcmp") header.String
    (codes "int strcmp ( char a [ ] , char b [ ] ) { unsigned long i = 0 ; while ( a [ i ] && a [ i ] == b "
    ++ codes "[ i ] ) i ++ ; return ( unsigned char ) a [ i ] - ( unsigned char ) b [ i ] ; }")
    ∷ row (codes "strcpy") header.String
    (codes "void strcpy ( char to [ ] , char from [ ] ) { unsigned long i = 0 ; while ( from [ i ] ) { to [ "
    ++ codes "i ] = from [ i ] ; i ++ ; } to [ i ] = 0 ; }")
    ∷ row (codes "memset") header.String
    (codes "void memset ( char s [ ] , int c , unsigned long n ) { unsigned long i = 0 ; while ( i < n ) { "
    ++ codes "s [ i ] = c ; i ++ ; } }")
    ∷ row (codes "memcpy") header.String
    (codes "void memcpy ( char to [ ] , char from [ ] , unsigned long n ) { unsigned long i = 0 ; while ( i "
    ++ codes "< n ) { to [ i ] = from [ i ] ; i ++ ; } }")
    ∷ []

-- all of them
unfoldable pub table : List Row
table = printing ++ further

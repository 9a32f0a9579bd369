-- What the scanner found at the front of a text, in the words of `Lexemes`.
use Rattle.cw_text.specs.declared.cursor.Token.{Token}
use Rattle.cw_text.specs.declared.cursor.Token.TheVariants as token
use Rattle.cw_text.specs.declared.scan.Front.{Front}
use Rattle.cw_text.specs.declared.scan.Front.TheVariants.{Gap, Found}
use Rattle.cw_text.specs.Lexemes as lexemes

abbrev pub lexeme_of : Token → lexemes.Token
lexeme_of (token.Name n) = lexemes.name n.bytes.now
lexeme_of (token.Number n) = lexemes.number n.value
lexeme_of (token.Terminal m) = lexemes.terminal m
lexeme_of (token.Bad k) = lexemes.bad k
lexeme_of token.End = lexemes.end

abbrev pub front_of : Front → lexemes.Front
front_of (Gap n) = lexemes.gap n
front_of (Found t n) = lexemes.found (lexeme_of t) n

-- A readable line says what its words command.
use Rattle.std.proofs.Common.{◌≡◌, ℕ, ◌<◌, ◌≤◌, ◌||◌, true, false, List, length, Option, None, Some, option_map, unwrap_or, refl, arith}
use Rattle.std.proofs.lemmas.Bool.{le-ltb}
use Rattle.std.proofs.lemmas.Grind.{common_steps}
use Rattle.std.proofs.lemmas.List.Sums.{AllPass-from_list_all}
use Rattle.std.proofs.lemmas.Str.{IsUtf8-from_ascii}
use Rattle.std.proofs.lemmas.Str.Ascii.{IsAscii-from_all}
use Rattle.std.specs.Str.{IsUtf8}
use Rattle.mt_plain.specs.Script.{Command, Line, MAX_LINE_LENGTH, bad_line, command, command_of, commanded, is_blank, is_readable, is_silent, is_visible, read_line, words_of}
use Rattle.mt_script.specs.declared.lines.Line as code
use Rattle.mt_script.specs.declared.lines.Line.TheVariants as line
use Rattle.mt_script.specs.declared.lines.LineRefusal.TheVariants as refusal
use Rattle.mt_script.specs.Lines.{line_from}

-- a readable line is a text
ascii : (byte : ℕ) → (is_blank byte || is_visible byte) ≡ true → byte < 128
ascii byte is = grind (arith, common_steps)

pub IsUtf8-readable : (line : List ℕ) → is_readable line ≡ true → IsUtf8 line
IsUtf8-readable line is = IsUtf8-from_ascii line (IsAscii-from_all line (λ k d h. ascii _ (AllPass-from_list_all (λ byte. is_blank byte || is_visible byte) line is k d h)))

-- a line as its command says, or a bad one
pub line-or : (found : Option code.Line) → line_from (unwrap_or found (line.Refused refusal.BadLine)) ≡ unwrap_or (option_map line_from found) bad_line
line-or None = refl
line-or (Some l) = refl

commanded-by : (c : Option Command) (found : Option Line) → found ≡ option_map command c → unwrap_or found bad_line ≡ commanded c
commanded-by None None is = refl
commanded-by (Some c) (Some line) is = let same : line ≡ command c = cc in same
commanded-by None (Some line) is = absurd cc
commanded-by (Some c) None is = absurd cc

pub read-by-words : (line : List ℕ) → is_silent line ≡ false → length line ≤ MAX_LINE_LENGTH → is_readable line ≡ true
    → (found : Option Line) → found ≡ option_map command (command_of (words_of line)) → unwrap_or found bad_line ≡ read_line line
read-by-words line writes short is found same = rw (writes, le-ltb MAX_LINE_LENGTH (length line) short, is) (commanded-by (command_of (words_of line)) found same)

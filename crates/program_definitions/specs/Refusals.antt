-- A refusal as the programs print it: document 01's line on standard output, and what is wrong in plain words on standard error. Document 01, "Listing",
-- "Questions before work"; README, "Refusals". Assumes nothing.
use Rattle.std.specs.Prelude.{ℕ, ◌-◌, Bool, true, false, List, [], ◌∷◌, ◌++◌, get_or}
use Rattle.questions.specs.Bytes.{bytes, decimal}
use Rattle.questions.specs.Questions.{Refusal}

-- "refused N place P"; "Every printed line ends with LF."
unfoldable pub refusal_line : Refusal → List ℕ
refusal_line r = bytes "refused " ++ (decimal r.number ++ (bytes " place " ++ (decimal r.place ++ bytes "\n")))

-- what is wrong, and what the place counts, for the questions from 1 on
unfoldable pub explanations : ℕ → List (List ℕ)
explanations place =
    bytes "V is not a number from 1 to 1,024\n"
    ∷ bytes "the text is empty or longer than 65,535 bytes\n"
    ∷ (bytes "the text stops being a ladder at byte " ++ (decimal place ++ bytes ", counting from 0\n"))
    ∷ bytes "the words and records hold no ladder\n"
    ∷ bytes "the ladder has more than 256 rungs, 128 words in a rung or 8,192 words\n"
    ∷ (bytes "rung " ++ (decimal place ++ bytes ", counting from 0, names a variable that is not below V\n"))
    ∷ (bytes "rung " ++ (decimal place ++ bytes ", counting from 0, has the label of an earlier rung\n"))
    ∷ (bytes "rung " ++ (decimal place ++ bytes ", counting from 0, jumps to a label that no rung has\n"))
    ∷ bytes "the translation needs more scratch than t0 to t31\n"
    ∷ bytes "the list is not one of 1 to 16,384 instructions with 1 to 256 records laid one after the other\n"
    ∷ bytes "the variables line is not V zeros and ones, variable 0 first\n"
    ∷ bytes "the rung watchdog is not a number from 0 to 65,535\n"
    ∷ bytes "the listing is longer than 65,536 bytes\n"
    ∷ bytes "the name table is not seventeen different names of 1 to 6 capitals, each filled with zeros to six bytes\n"
    ∷ bytes "the text is not a listing in the table's names\n"
    ∷ bytes "there are more than 32 timers, or a timer's variable is not below V or is another timer's too\n"
    ∷ bytes "the ladder names a timer that has no record\n"
    ∷ []

unfoldable pub explanation : Refusal → List ℕ
explanation r = get_or (explanations r.place) (r.number - 1) []

-- a text from a system whose lines end with CR LF
unfoldable pub line_ends_text : List ℕ
line_ends_text = bytes "the input has CR LF line ends: a line ends with LF alone\n"

-- the lines on standard error, each begun by the program's name: what is wrong, and a line more where a CR stood before an LF
unfoldable pub error_lines : List ℕ → Bool → Refusal → List ℕ
error_lines name crlf r = name ++ (bytes ": " ++ (explanation r ++ elim crlf [ true ↦ name ++ (bytes ": " ++ line_ends_text) | false ↦ [] ]))

-- Why a line is not read as a command, and a text not as a session file.
use Rattle.std.specs.Prelude.{◌≡◌, ℕ, ◌+◌, List, ◌∷◌, ◌++◌, length, Some, codes, ⊤}
use Rattle.redodb_model.specs.Names.{Text}
use Rattle.redodb_model.specs.Command.{Item}
use Rattle.redodb_text.specs.declared.fault.LineFault.{LineFault}
use Rattle.redodb_text.specs.declared.fault.LineFault.TheVariants.{LineTooLong, BadByte, UnknownCommand, WrongWords, BadName, BadStamp, BadHex, TooManyLines, TooManyNames}
use Rattle.redodb_text.specs.declared.fault.Fault.{Fault}
use Rattle.redodb_text.specs.declared.fault.Fault.TheVariants.{Read, Write}
use Rattle.redodb_text.specs.Grammar.{lines_of, AreScriptLines}
use Rattle.redodb_text.specs.Questions.{file_line_fault}

-- the word for a line's fault
abbrev pub fault_word_of : LineFault → Text
fault_word_of LineTooLong = codes "line-too-long"
fault_word_of BadByte = codes "bad-byte"
fault_word_of UnknownCommand = codes "unknown-command"
fault_word_of WrongWords = codes "wrong-words"
fault_word_of BadName = codes "bad-name"
fault_word_of BadStamp = codes "bad-stamp"
fault_word_of BadHex = codes "bad-hex"
fault_word_of TooManyLines = codes "too-many-lines"
fault_word_of TooManyNames = codes "too-many-names"

-- the lines before it are those of items, and with these before it the line has this fault
pub record FailsAfter (names : List Text) (before : List Text) (line : Text)
    (fault : LineFault) : Type 0 where
  pub items : List (Item Text)
  pub after : List Text
  pub read : AreScriptLines names before items after
  pub fails : file_line_fault (length items) after line ≡ Some fault

-- the text's first faulty line has this number, counted from 1, and this fault
pub record IsFirstFault (names : List Text) (text : Text) (number : ℕ)
    (fault : LineFault) : Type 0 where
  pub before : List Text
  pub line : Text
  pub rest : List Text
  pub lines : lines_of text ≡ before ++ line ∷ rest
  pub counted : number ≡ length before + 1
  pub fails : FailsAfter names before line fault

-- the fault is a device's: a read or a write failed
abbrev pub IsDeviceFault : Fault → Type 0
IsDeviceFault (Read file) = ⊤
IsDeviceFault Write = ⊤
IsDeviceFault fault = ⊥

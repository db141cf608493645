-- Scripts, in their reading order.

-- The words of a text, and the lines of a script.
pub mod Words
pub mod Lines
-- What a line asks for.
pub mod Asks
-- The answer to a list, and the answer to a line.
pub mod ListAnswers
pub mod LineAnswers
-- A script: its answered lines, one after the other.
pub mod WholeScript
-- A script as a run of its commands, with its lists between them.
pub mod ScriptRun

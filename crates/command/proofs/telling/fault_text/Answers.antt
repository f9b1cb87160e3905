use Rattle.command.proofs.telling.fault_text.Goals as goal

pub returns-in-WordAfterHelp : goal.returns-in-WordAfterHelp
returns-in-WordAfterHelp c =
    rw (c.in-WordAfterHelp.is, ← c.word_at-verb.ensures, ← c.word_at-word.ensures) c.format-in-WordAfterHelp.ensures.ok

pub returns-in-UnknownOption : goal.returns-in-UnknownOption
returns-in-UnknownOption c =
    rw (c.in-UnknownOption.is, ← c.word_at-verb.ensures, ← c.word_at-word-in-UnknownOption.ensures) c.format-in-UnknownOption.ensures.ok

pub returns-in-NoFile : goal.returns-in-NoFile
returns-in-NoFile c = rw (c.in-NoFile.is, ← c.word_at-verb.ensures) c.format-in-NoFile.ensures.ok

pub returns-in-SecondFile : goal.returns-in-SecondFile
returns-in-SecondFile c =
    rw (c.in-SecondFile.is, ← c.word_at-verb.ensures, ← c.word_at-word-in-SecondFile.ensures) c.format-in-SecondFile.ensures.ok

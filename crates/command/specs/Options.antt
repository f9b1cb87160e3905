-- The values of the options that a call gives: the places of their words.
use Rattle.std.specs.Prelude.{ℕ, Some, None, Option}
use Rattle.command.specs.declared.options.Options.{Options}
use Rattle.command.specs.declared.words.OptionName.{OptionName}
use Rattle.command.specs.declared.words.OptionName.TheVariants.{Levels, Order, Listener, Model, Values, Other, Steps, Lines}
use Rattle.command.specs.declared.words.Verb.{Verb}
use Rattle.command.specs.declared.words.Verb.TheVariants.{Show, Clear, Run, Twin}

abbrev pub no_options : Options
no_options =
    record { levels = None; order = None; listener = None; model = None; values = None; other = None; steps = None; lines = None }

abbrev pub given : OptionName → Options → Option ℕ
given Levels o = o.levels
given Order o = o.order
given Listener o = o.listener
given Model o = o.model
given Values o = o.values
given Other o = o.other
given Steps o = o.steps
given Lines o = o.lines

-- the options in which one has the value at place p
abbrev pub with_option : OptionName → ℕ → Options → Options
with_option Levels p o = record { levels = Some p; order = o.order; listener = o.listener; model = o.model; values = o.values; other = o.other; steps = o.steps; lines = o.lines }
with_option Order p o = record { levels = o.levels; order = Some p; listener = o.listener; model = o.model; values = o.values; other = o.other; steps = o.steps; lines = o.lines }
with_option Listener p o = record { levels = o.levels; order = o.order; listener = Some p; model = o.model; values = o.values; other = o.other; steps = o.steps; lines = o.lines }
with_option Model p o = record { levels = o.levels; order = o.order; listener = o.listener; model = Some p; values = o.values; other = o.other; steps = o.steps; lines = o.lines }
with_option Values p o = record { levels = o.levels; order = o.order; listener = o.listener; model = o.model; values = Some p; other = o.other; steps = o.steps; lines = o.lines }
with_option Other p o = record { levels = o.levels; order = o.order; listener = o.listener; model = o.model; values = o.values; other = Some p; steps = o.steps; lines = o.lines }
with_option Steps p o = record { levels = o.levels; order = o.order; listener = o.listener; model = o.model; values = o.values; other = o.other; steps = Some p; lines = o.lines }
with_option Lines p o = record { levels = o.levels; order = o.order; listener = o.listener; model = o.model; values = o.values; other = o.other; steps = o.steps; lines = Some p }

-- x where nothing is given, and else what comes next
abbrev pub unless_given : Option ℕ → OptionName → Option OptionName → Option OptionName
unless_given None x next = Some x
unless_given (Some p) x next = next

-- the first option that a verb wants and that is not given
abbrev pub missing : Verb → Options → Option OptionName
missing Show o = None
missing Clear o = unless_given o.levels Levels None
missing Run o = unless_given o.levels Levels (unless_given o.values Values None)
missing Twin o = unless_given o.levels Levels (unless_given o.values Values (unless_given o.other Other None))

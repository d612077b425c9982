mod Bodies
mod Digits
mod Items
mod TemplateRows
mod CommandRows
mod Metrics

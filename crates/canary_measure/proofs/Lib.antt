mod Shapes
mod Forms
mod Lists
mod Reports
mod Tenths

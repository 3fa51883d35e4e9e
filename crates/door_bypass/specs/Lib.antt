pub mod Alarm
